pub mod Common
pub mod MergeSteps
pub mod Composing
pub mod JoinedParts
pub mod Shorts
