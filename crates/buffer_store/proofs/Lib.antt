pub mod BufferLists
pub mod Writing
