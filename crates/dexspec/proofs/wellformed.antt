-- What an accepted file denotes is well formed and good.
pub mod Formed
pub mod PoolRows
pub mod Fitting
pub mod ClassDepths
pub mod DenotedGood
pub mod SymbolRows
pub mod ShortStrings
pub mod FormedRows
pub mod FormedValues
pub mod MemberOrder
pub mod FormedMembers
pub mod Blanked
pub mod BlankedCode
pub mod FormedCode
pub mod FilledCode
pub mod ShortIndices
