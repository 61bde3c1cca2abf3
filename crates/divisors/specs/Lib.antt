pub mod Refused
pub mod Divisors
pub mod Divisibility
pub mod Gcds
