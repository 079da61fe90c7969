mod EquationRows
mod Frames
pub mod Lasting
pub mod Lists
pub mod NodeLists
pub mod Programs
pub mod Setting
pub mod Shaping
pub mod Shares
pub mod Sums
pub mod WorkedRows
