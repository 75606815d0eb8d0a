pub mod Output
pub mod Printed
pub mod Took
pub mod Written
unfoldable pub use Output.*
unfoldable pub use Printed.*
unfoldable pub use Took.*
unfoldable pub use Written.*
