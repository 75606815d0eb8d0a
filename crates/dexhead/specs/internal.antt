-- Words of the contracts of private functions: no public contract reaches them.
pub mod Found
pub mod HeaderChecks
pub mod Map
pub mod Refusals
