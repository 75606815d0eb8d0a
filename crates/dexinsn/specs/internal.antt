-- Words of the contracts of private functions: no public contract reaches them.
pub mod Checking
pub mod Props
pub mod Same
pub mod LongSwitches
pub mod Writing
pub mod Splitting
unfoldable pub use Checking.*
unfoldable pub use Props.*
unfoldable pub use Same.*
unfoldable pub use LongSwitches.*
unfoldable pub use Writing.*
unfoldable pub use Splitting.*
