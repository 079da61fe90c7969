mod CountRows
pub mod Forms
pub mod Laws
mod Rows
