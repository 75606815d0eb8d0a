pub mod Detailed
pub mod FullListing
pub mod Laws
pub mod Listing
pub mod internal
unfoldable pub use Detailed.*
unfoldable pub use FullListing.*
unfoldable pub use Laws.*
unfoldable pub use Listing.*
unfoldable pub use internal.Known.*
unfoldable pub use internal.FullPieces.*
