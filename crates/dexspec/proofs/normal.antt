-- The canonical file of a good collection is accepted and denotes it.
pub mod ClassOrder
pub mod NormalRows
pub mod ClassPlaces
pub mod NormalClasses
pub mod NormalForm
pub mod MemberRanks
pub mod ClassDirectory
pub mod ClassItems
pub mod RowsReadable
