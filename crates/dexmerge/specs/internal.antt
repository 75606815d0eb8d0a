-- Words of the contracts of private functions: no public contract reaches them.
pub mod UnionChecks
pub mod Cycles
pub mod Amounts
pub mod Unions
pub mod Collecting
pub mod CandidateLists
pub mod Parts
