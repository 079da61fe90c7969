pub mod Heard
pub mod Banks
pub mod States
