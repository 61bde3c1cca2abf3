pub mod Nodes
pub mod Terms
pub mod Records
pub mod Enter
pub mod Keep
pub mod View
