-- Equal items are written once.
pub mod Shorter
pub mod Unshared
pub mod Sameness
pub mod Sharing
