pub mod Checking
pub mod Debug
pub mod DebugEquality
pub mod DebugReading
pub mod Equality
pub mod Laws
pub mod Meaning
pub mod Operations
pub mod Packed
pub mod Positions
pub mod internal
unfoldable pub use Checking.*
unfoldable pub use Debug.*
unfoldable pub use DebugEquality.*
unfoldable pub use DebugReading.*
unfoldable pub use Equality.*
unfoldable pub use Laws.*
unfoldable pub use Operations.*
unfoldable pub use Packed.*
unfoldable pub use Positions.*
