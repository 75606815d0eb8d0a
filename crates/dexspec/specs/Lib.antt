pub mod Lists
pub mod Bytes
pub mod Numbers
pub mod Texts
pub mod Names
pub mod Symbols
pub mod Header
pub mod Sections
pub mod Rows
pub mod Opcodes
pub mod Pieces
pub mod Debug
pub mod Code
pub mod Values
pub mod Annotations
pub mod Sameness
pub mod ClassData
pub mod Classes
pub mod Files
pub mod Mentions
pub mod WellFormed
pub mod Weight
pub mod Conditions
pub mod Accepted
pub mod Depth
pub mod Spellings
pub mod Placing
pub mod Canonical
pub mod Merging
pub mod Stripping
pub mod internal
unfoldable pub use Lists.*
unfoldable pub use Bytes.*
unfoldable pub use Numbers.*
unfoldable pub use Texts.*
unfoldable pub use Names.*
unfoldable pub use Symbols.*
unfoldable pub use Header.*
unfoldable pub use Sections.*
unfoldable pub use Rows.*
unfoldable pub use Opcodes.*
unfoldable pub use Pieces.*
unfoldable pub use Debug.*
unfoldable pub use Code.*
unfoldable pub use Values.*
unfoldable pub use Annotations.*
unfoldable pub use Sameness.*
unfoldable pub use ClassData.*
unfoldable pub use Classes.*
unfoldable pub use Files.*
unfoldable pub use Mentions.*
unfoldable pub use WellFormed.*
unfoldable pub use Weight.*
unfoldable pub use Conditions.*
unfoldable pub use Accepted.*
unfoldable pub use Depth.*
unfoldable pub use Spellings.*
unfoldable pub use Placing.*
unfoldable pub use Canonical.*
unfoldable pub use Merging.*
unfoldable pub use Stripping.*
