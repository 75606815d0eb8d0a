-- Unions: mentions, ranks, depths, weights, conflicts and the first cause.
pub mod SymbolOrders
pub mod Growth
pub mod MentionMembers
pub mod DepthGrowth
pub mod WeightGrowth
pub mod Absorption
pub mod Depths
pub mod Conflicts
pub mod Exceeding
pub mod FirstCauses
pub mod Collections
unfoldable pub use SymbolOrders.*
unfoldable pub use Growth.*
unfoldable pub use MentionMembers.*
unfoldable pub use DepthGrowth.*
unfoldable pub use WeightGrowth.*
unfoldable pub use Absorption.*
unfoldable pub use Depths.*
unfoldable pub use Conflicts.*
unfoldable pub use Exceeding.*
unfoldable pub use FirstCauses.*
unfoldable pub use Collections.*
