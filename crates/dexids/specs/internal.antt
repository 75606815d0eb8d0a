-- Words of the contracts of private functions: no public contract reaches them.
pub mod Kinds
pub mod CheckedLists
pub mod FileRows
pub mod ReadRows
