pub mod Common
pub mod Digested
pub mod JoinedSums
pub mod Rows
pub mod WholeFile
