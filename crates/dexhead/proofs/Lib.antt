pub mod Common
pub mod Entries
pub mod Frames
pub mod HeaderChecks
pub mod LaidOut
pub mod Lengths
pub mod Overwritten
