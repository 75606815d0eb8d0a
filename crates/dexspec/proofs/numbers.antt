-- Numbers as bytes: LEB128, groups of seven bits, fixed and least widths.
pub mod Chains
pub mod Groups
pub mod Signed
pub mod Spellings
pub mod ByteNumbers
pub mod Widths
unfoldable pub use Chains.*
unfoldable pub use Groups.*
unfoldable pub use Signed.*
unfoldable pub use Spellings.*
unfoldable pub use ByteNumbers.*
unfoldable pub use Widths.*
