pub mod Laws
pub mod Members
pub mod Order
pub mod Seconds
pub mod Text
pub mod Textable
pub mod Writing
