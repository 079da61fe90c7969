pub mod Members
pub mod Reaching
pub mod Heights
pub mod Laws
