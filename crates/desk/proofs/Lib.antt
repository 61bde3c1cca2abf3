pub mod Showing
pub mod Trials
pub mod Present
