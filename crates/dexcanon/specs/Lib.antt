pub mod Digests
pub mod Sums
pub mod Written
pub mod internal
unfoldable pub use Digests.*
unfoldable pub use Sums.*
unfoldable pub use Written.*
unfoldable pub use internal.Adding.*
unfoldable pub use internal.ClassRows.*
unfoldable pub use internal.Ready.*
