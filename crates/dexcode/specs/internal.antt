-- Words of the contracts of private functions: no public contract reaches them.
pub mod Extras
pub mod NamedHandlers
pub mod TriesReading
pub mod Same
