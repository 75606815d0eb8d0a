pub mod Checking
pub mod CodePut
pub mod Equality
pub mod Laws
pub mod Meaning
pub mod Numbered
pub mod Reading
pub mod Renumbering
pub mod internal
unfoldable pub use Checking.*
unfoldable pub use CodePut.*
unfoldable pub use Equality.*
unfoldable pub use Laws.*
unfoldable pub use Meaning.*
unfoldable pub use Numbered.*
unfoldable pub use Reading.*
unfoldable pub use Renumbering.*
