pub mod Terms
pub mod Lattices
pub mod Bounds
