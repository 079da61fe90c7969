pub mod Paging
pub mod Rounding
