pub mod CommandLine
pub mod Lists
pub mod Verbosity
pub mod Words
pub mod Asked
pub mod Answers
