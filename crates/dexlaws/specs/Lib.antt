pub mod Causes
pub mod Denotes
pub mod Frame
pub mod Growth
pub mod Items
pub mod Leb128
pub mod Merge
pub mod Normal
pub mod Size
pub mod Strip
pub mod Written
unfoldable pub use Causes.*
unfoldable pub use Denotes.*
unfoldable pub use Frame.*
unfoldable pub use Growth.*
unfoldable pub use Items.*
unfoldable pub use Leb128.*
unfoldable pub use Normal.*
unfoldable pub use Size.*
unfoldable pub use Strip.*
unfoldable pub use Written.*
