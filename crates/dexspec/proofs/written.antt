-- The canonical bytes of an item encode the item.
pub mod PlacedBytes
pub mod NumbersWritten
pub mod ValuesWritten
pub mod DebugWritten
pub mod SetsWritten
pub mod ClassDataWritten
pub mod DirectoriesWritten
pub mod HandlersWritten
pub mod HandlerPlaces
pub mod CodeWritten
pub mod DirectoryEntries
unfoldable pub use PlacedBytes.*
unfoldable pub use NumbersWritten.*
unfoldable pub use ValuesWritten.*
unfoldable pub use DebugWritten.*
unfoldable pub use SetsWritten.*
unfoldable pub use ClassDataWritten.*
unfoldable pub use DirectoriesWritten.*
unfoldable pub use HandlersWritten.*
unfoldable pub use HandlerPlaces.*
unfoldable pub use CodeWritten.*
unfoldable pub use DirectoryEntries.*
