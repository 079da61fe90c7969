pub mod Alike
pub mod Fresh
pub mod Keeping
pub mod Quanta
pub mod Same
