-- Words of the contracts of private functions: no public contract reaches them.
pub mod Counting
pub mod Found
pub mod Heads
pub mod Room
pub mod Scalars
pub mod Tallies
