pub mod PortRows
pub mod WorldRows
