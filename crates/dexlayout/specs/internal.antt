-- Words of the contracts of private functions: no public contract reaches them.
pub mod Adding
pub mod Annotated
pub mod Codes
pub mod Directories
pub mod Encoding
pub mod Encodings
pub mod Collecting
pub mod Kept
pub mod ListSharing
pub mod OffsetLists
pub mod Parts
pub mod Placing
pub mod Running
pub mod Runs
pub mod SharedUses
pub mod Sharing
