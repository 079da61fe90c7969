pub mod Calls
pub mod Creations
pub mod Given
pub mod Numbers
pub mod Reading
pub mod Script
pub mod Tree
