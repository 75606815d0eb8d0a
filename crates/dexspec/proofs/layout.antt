-- The file of definitions: header, map, tables and sections are where its layout says.
pub mod Sums
pub mod Places
pub mod Placements
pub mod Tables
pub mod SectionPlaces
pub mod HeaderLaws
pub mod MapEntries
pub mod MapLaws
pub mod Frames
pub mod Uses
pub mod RowsRead
pub mod PoolsAreAt
pub mod PoolsInOrder
pub mod PlainHeaders
pub mod FileRows
