pub mod Nodes
pub mod Refused
pub mod Records
pub mod State
pub mod Enter
pub mod Keep
pub mod View
