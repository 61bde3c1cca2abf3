pub mod Sites
pub mod SitesTell
pub mod Answers
pub mod Desks
pub mod View
pub mod Wide
pub mod WideLaws
pub mod Scripts
