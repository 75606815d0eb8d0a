-- Stripping keeps what can be merged, and commutes with unions.
pub mod StripUnion
pub mod StripMentions
pub mod StripWeight
pub mod StripGood
pub mod StripWellFormed
pub mod StripCollection
pub mod StripOrder
pub mod StripWithoutDebug
pub mod StripKept
