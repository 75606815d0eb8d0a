pub mod Definitions
pub mod Depths
pub mod EqualLists
pub mod Parents
pub mod Places
pub mod internal
unfoldable pub use Definitions.*
unfoldable pub use Depths.*
unfoldable pub use EqualLists.*
unfoldable pub use Parents.*
unfoldable pub use Places.*
