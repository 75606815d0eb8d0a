pub mod Deepest
pub mod SameUnions
pub mod Shared
pub mod UnionForm
