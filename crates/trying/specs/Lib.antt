pub mod Refused
pub mod Trying
pub mod Trials
pub mod Numbers
