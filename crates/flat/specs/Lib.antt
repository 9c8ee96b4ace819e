pub mod Picks
pub mod Frames
pub mod Lines
pub mod Reading
pub mod Examples
pub mod Laws
pub mod Spelling
