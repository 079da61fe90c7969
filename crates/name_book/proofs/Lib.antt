pub mod FirstNames
pub mod Laws
pub mod Maps
