pub mod Members
pub mod Tests
pub mod Reaching
pub mod HeightLaws
pub mod SchemeLaws
pub mod Places
pub mod Rows
