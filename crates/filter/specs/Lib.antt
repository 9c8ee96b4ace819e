pub mod Faults
pub mod Books
pub mod Answers
pub mod Calls
pub mod Turns
