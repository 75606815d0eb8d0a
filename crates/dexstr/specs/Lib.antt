pub mod Units
pub mod Escapes
pub mod Faults
pub mod Kinds
pub mod internal
unfoldable pub use Units.*
unfoldable pub use Escapes.*
unfoldable pub use Faults.*
unfoldable pub use Kinds.*
unfoldable pub use internal.Order.*
unfoldable pub use internal.Keys.*
unfoldable pub use internal.Runs.*
