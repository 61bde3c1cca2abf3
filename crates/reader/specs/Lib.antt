pub mod Faults
pub mod Cutting
pub mod Reading
pub mod Grammar
pub mod Names
pub mod Exact
pub mod Steps
