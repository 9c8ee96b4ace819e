pub mod Ops
pub mod Does
pub mod Rows
pub mod Register
