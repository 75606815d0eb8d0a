pub mod Pools
pub mod Numberings
pub mod Stored
pub mod Owned
pub mod Laws
pub mod Orderly
pub mod Uses
pub mod NumberedSymbols
pub mod Images
pub mod Packed
pub mod Sharing
pub mod Cut
pub mod internal
unfoldable pub use Pools.*
unfoldable pub use Numberings.*
unfoldable pub use Stored.*
unfoldable pub use Owned.*
unfoldable pub use Laws.*
unfoldable pub use Orderly.*
unfoldable pub use Uses.*
unfoldable pub use Images.*
unfoldable pub use Packed.*
unfoldable pub use Sharing.*
unfoldable pub use Cut.*
