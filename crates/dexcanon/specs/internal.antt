-- Words of the contracts of private functions: no public contract reaches them.
pub mod Adding
pub mod Checksums
pub mod ClassRows
pub mod Ready
pub mod Through
