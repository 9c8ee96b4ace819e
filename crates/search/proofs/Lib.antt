pub mod Bytes
pub mod Picks
pub mod Seeking
pub mod Deciding
pub mod Found
