mod Digits
mod ListLaws
pub mod Outcomes
mod Programs
mod Rows
mod Times
