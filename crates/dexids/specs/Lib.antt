pub mod Faults
pub mod Reading
pub mod Tables
pub mod FileTables
pub mod Lists
pub mod internal
unfoldable pub use Faults.*
unfoldable pub use Reading.*
unfoldable pub use Tables.*
unfoldable pub use FileTables.*
unfoldable pub use Lists.*
