pub mod Verbs
pub mod Mistakes
pub mod Trials
pub mod Slots
pub mod Commands
