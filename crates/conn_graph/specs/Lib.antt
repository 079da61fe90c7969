pub mod Edges
pub mod Graph
pub mod Walks
pub mod Cells
pub mod Lists
pub mod Ends
pub mod Orders
