pub mod Shifts
pub mod Gather
pub mod Spelling
pub mod Gaps
pub mod Prefixes
pub mod Refusing
pub mod Barring
