pub mod SingleBits
pub mod Composed
pub mod FlagTables
