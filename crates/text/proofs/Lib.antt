pub mod Parts
pub mod Decoding
pub mod Numbers
pub mod Spelled
pub mod Clears
mod Empty
pub mod SameWord
pub mod Shown
