pub mod Actions
pub mod Rules
pub mod Kinds
pub mod Faults
