-- Words of the contracts of private functions: no public contract reaches them.
pub mod Rows
pub mod Shared
pub mod Listed
pub mod InterfaceClasses
pub mod Wholes
pub mod Checked
pub mod Ordered
pub mod Reading
pub mod ReadWithin
pub mod Stripped
pub mod Parts
pub mod Trimming
