pub mod Turning
pub mod Redoing
pub mod Comparing
pub mod Removed
