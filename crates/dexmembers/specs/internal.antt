-- Words of the contracts of private functions: no public contract reaches them.
pub mod Attaching
pub mod ClassData
pub mod DebugPlaces
pub mod EncodedMembers
pub mod Kept
pub mod MethodCodes
pub mod Naming
pub mod Parts
pub mod Places
pub mod RowParts
pub mod RowReaders
pub mod SharedCodes
pub mod StaticValues
pub mod Stored
pub mod Weighed
