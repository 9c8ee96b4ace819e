pub mod Steps
pub mod Seeks
pub mod Least
pub mod Assigned
