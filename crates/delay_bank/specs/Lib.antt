pub mod Kept
pub mod Banks
pub mod Lasting
