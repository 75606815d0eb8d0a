-- Words of the contracts of private functions: no public contract reaches them.
pub mod Searching
