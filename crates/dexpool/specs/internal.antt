-- Words of the contracts of private functions: no public contract reaches them.
pub mod Ranking
pub mod Renumbering
pub mod Closing
pub mod Marking
pub mod Joining
pub mod SharedLists
