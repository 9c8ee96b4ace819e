pub mod Faults
pub mod Address
pub mod Gathered
pub mod Prefix
pub mod Grammar
pub mod Refusals
pub mod Examples
