-- Words of the contracts of private functions: no public contract reaches them.
pub mod DebugReading
pub mod Same
pub mod Writing
