pub mod Assignments
pub mod Puts
pub mod Rows
pub mod Tables
pub mod Tidy
