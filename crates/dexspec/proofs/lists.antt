-- Lists: members, order, repeats, searches, and where members come from.
pub mod Members
pub mod InOrder
pub mod Decided
pub mod Searches
pub mod Sequences
pub mod Mapped
pub mod RankOrder
pub mod Sources
pub mod Equality
pub mod FirstPlaces
pub mod Distinct
unfoldable pub use Members.*
unfoldable pub use InOrder.*
unfoldable pub use Decided.*
unfoldable pub use Searches.*
unfoldable pub use Sequences.*
unfoldable pub use Mapped.*
unfoldable pub use RankOrder.*
unfoldable pub use Sources.*
unfoldable pub use Equality.*
unfoldable pub use FirstPlaces.*
unfoldable pub use Distinct.*
