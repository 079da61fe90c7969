pub mod Beginning
mod CatchingUp
mod Copying
mod Fetching
mod Finishing
mod Folders
mod Going
pub mod Interleaving
pub mod Keeping
pub mod Lasting
mod Lists
mod Planning
mod Quanta
mod Replaying
mod Samples
mod Settling
mod Showing
mod Sides
mod Standing
pub mod Tapes
pub mod Taping
mod Turning
