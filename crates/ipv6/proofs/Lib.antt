pub mod Fielding
pub mod Words
pub mod Clear
pub mod Saying
pub mod Refusing
pub mod Meaning
