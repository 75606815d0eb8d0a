pub mod CapKinds
pub mod Capping
pub mod Plans
pub mod Faults
pub mod Parts
pub mod Candidates
pub mod Counting
pub mod internal
unfoldable pub use CapKinds.*
unfoldable pub use Capping.*
unfoldable pub use Plans.*
unfoldable pub use Faults.*
unfoldable pub use Parts.*
unfoldable pub use Candidates.*
unfoldable pub use Counting.*
