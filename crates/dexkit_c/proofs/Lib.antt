pub mod Reading
pub mod Unmade
pub mod InMemory
