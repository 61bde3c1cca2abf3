pub mod Slots
pub mod Strays
pub mod Turns
pub mod Judging
pub mod Numbers
