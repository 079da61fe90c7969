pub mod Puts
pub mod Graphs
pub mod EndLaws
pub mod EndOrders
pub mod MutingLaws
pub mod RankLaws
pub mod OrderLaws
pub mod Rows
pub mod WalkLaws
mod Segments
mod OneList
mod AllLists
mod Edits
mod Joined
mod Walking
mod Nexts
mod Going
mod Wholes
mod Leaving
pub mod FormRows
pub mod EditLaws
