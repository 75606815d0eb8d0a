pub mod Borrowed
pub mod Checking
pub mod ClassDefs
pub mod Contents
pub mod DirectoryPut
pub mod Held
pub mod HeldCodes
pub mod Laws
pub mod Numbered
pub mod Reading
pub mod Renumbering
pub mod SharedDebugs
pub mod SharedMembers
pub mod Spelled
pub mod StaticValues
pub mod TooHeavy
pub mod Uses
pub mod Weighing
pub mod Weight
pub mod Fitting
pub mod FormedDirectory
pub mod Stripped
pub mod internal
unfoldable pub use Borrowed.*
unfoldable pub use Checking.*
unfoldable pub use ClassDefs.*
unfoldable pub use Contents.*
unfoldable pub use DirectoryPut.*
unfoldable pub use Held.*
unfoldable pub use Laws.*
unfoldable pub use Numbered.*
unfoldable pub use Reading.*
unfoldable pub use Renumbering.*
unfoldable pub use SharedDebugs.*
unfoldable pub use Spelled.*
unfoldable pub use Uses.*
unfoldable pub use Weighing.*
unfoldable pub use Weight.*
unfoldable pub use Fitting.*
unfoldable pub use FormedDirectory.*
unfoldable pub use Stripped.*
unfoldable pub use internal.Stored.*
