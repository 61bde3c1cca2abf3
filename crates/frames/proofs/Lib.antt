pub mod Words
pub mod Chains
pub mod Closing
pub mod Searches
