pub mod Since
pub mod Fresh
pub mod Growing
pub mod Same
