pub mod Decimals
pub mod Commands
