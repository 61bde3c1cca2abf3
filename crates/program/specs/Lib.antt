pub mod Programs
