pub mod Device
pub mod OutputLaws
pub mod Prefixes
pub mod Pushing
unfoldable pub use Device.*
unfoldable pub use OutputLaws.*
unfoldable pub use Prefixes.*
unfoldable pub use Pushing.*
