pub mod First
pub mod Reading
pub mod Groups
pub mod Sign
