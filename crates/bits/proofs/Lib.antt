pub mod Spelt
pub mod Bytes
pub mod Counting
pub mod Agreeing
pub mod Framing
