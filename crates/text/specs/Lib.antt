pub mod Faults
pub mod Split
pub mod Lines
pub mod Hexadecimal
pub mod Numerals
pub mod Written
