mod Constants
mod HolderRows
pub mod Nesting
pub mod Texts
mod WordRows
