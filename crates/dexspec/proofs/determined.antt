-- Bytes determine what is at an offset: one number, text, row, value, debug program, code item and class at most.
pub mod OneNumber
pub mod OneText
pub mod OneRow
pub mod OneValue
pub mod OneDebug
pub mod OneCode
pub mod OneClass
pub mod OneCollection
pub mod Readable
pub mod Denoted
unfoldable pub use OneNumber.*
unfoldable pub use OneText.*
unfoldable pub use OneRow.*
unfoldable pub use OneValue.*
unfoldable pub use OneDebug.*
unfoldable pub use OneCode.*
unfoldable pub use OneClass.*
unfoldable pub use OneCollection.*
unfoldable pub use Readable.*
unfoldable pub use Denoted.*
