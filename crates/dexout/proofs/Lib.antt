pub mod Common
pub mod Buffered
pub mod Finished
pub mod Given
pub mod Hexadecimal
