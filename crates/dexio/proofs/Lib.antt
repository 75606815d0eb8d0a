pub mod Common
pub mod Encoded
pub mod Spelled
pub mod WrittenPieces
