pub mod Calls
pub mod Faults
