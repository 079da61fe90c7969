pub mod Book
pub mod Rooms
