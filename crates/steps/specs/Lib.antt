pub mod Steps
pub mod Works
pub mod Meaning
