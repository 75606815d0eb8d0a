pub mod Checking
pub mod Numbered
pub mod Uses
pub mod Renumbering
pub mod Parents
pub mod Programs
pub mod Laws
pub mod internal
unfoldable pub use Checking.*
unfoldable pub use Numbered.*
unfoldable pub use Uses.*
unfoldable pub use Renumbering.*
unfoldable pub use Parents.*
unfoldable pub use Programs.*
unfoldable pub use Laws.*
