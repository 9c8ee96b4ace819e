pub mod Registers
pub mod Rows
pub mod Adding
pub mod Rebuilding
pub mod Wiping
