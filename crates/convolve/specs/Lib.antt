pub mod Convolver
pub mod ConvolverInside
pub mod LineInside
pub mod Lines
pub mod Responses
