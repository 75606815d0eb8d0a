pub mod Examples
pub mod ExpectedFiles
pub mod SharedFiles
pub mod Units
pub mod OpcodeTable
pub mod Varied
pub mod Valued
pub mod Values
pub mod Whole
unfoldable pub use Examples.*
unfoldable pub use ExpectedFiles.*
unfoldable pub use SharedFiles.*
unfoldable pub use Units.*
unfoldable pub use OpcodeTable.*
unfoldable pub use Varied.*
unfoldable pub use Valued.*
unfoldable pub use Values.*
unfoldable pub use Whole.*
