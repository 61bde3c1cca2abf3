pub mod Answers
pub mod Sets
pub mod Words
