pub mod Hearing
pub mod Marks
