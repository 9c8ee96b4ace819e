pub mod Judging
pub mod Numbers
pub mod Telling
pub mod Runs
pub mod Together
pub mod Placing
