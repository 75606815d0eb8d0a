pub mod Opcode
pub mod Payload
pub mod Split
pub mod Units
pub mod Numbered
pub mod Put
pub mod Stored
pub mod Reading
pub mod Listing
pub mod Fitting
pub mod Laws
pub mod Checking
pub mod Bits
pub mod Blank
pub mod internal
unfoldable pub use Opcode.*
unfoldable pub use Payload.*
unfoldable pub use Split.*
unfoldable pub use Units.*
unfoldable pub use Numbered.*
unfoldable pub use Put.*
unfoldable pub use Stored.*
unfoldable pub use Reading.*
unfoldable pub use Listing.*
unfoldable pub use Fitting.*
unfoldable pub use Laws.*
unfoldable pub use Checking.*
unfoldable pub use Bits.*
unfoldable pub use Blank.*
