pub mod Rules
pub mod Lines
pub mod Reading
pub mod Grammar
pub mod Refusals
pub mod Examples
pub mod Laws
