pub mod Accounts
pub mod Facts
pub mod Needs
pub mod Checked
pub mod Texts
pub mod LineReading
pub mod Laws
