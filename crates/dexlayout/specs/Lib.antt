pub mod ItemKeys
pub mod Laid
pub mod ListKeys
pub mod Places
pub mod internal
unfoldable pub use ItemKeys.*
unfoldable pub use Laid.*
unfoldable pub use ListKeys.*
unfoldable pub use Places.*
unfoldable pub use internal.Adding.*
unfoldable pub use internal.Annotated.*
unfoldable pub use internal.Codes.*
unfoldable pub use internal.Directories.*
unfoldable pub use internal.Encoding.*
unfoldable pub use internal.Encodings.*
unfoldable pub use internal.Collecting.*
unfoldable pub use internal.Kept.*
unfoldable pub use internal.ListSharing.*
unfoldable pub use internal.OffsetLists.*
unfoldable pub use internal.Parts.*
unfoldable pub use internal.Placing.*
unfoldable pub use internal.Running.*
unfoldable pub use internal.Runs.*
unfoldable pub use internal.SharedUses.*
unfoldable pub use internal.Sharing.*
