pub mod Counting
mod Draws
mod Laning
mod Neighbours
mod Parts
mod Stays
