mod CallSteps
pub mod CreationLaws
mod DepthLaws
mod FieldRanges
mod FormLaws
mod HeadSteps
mod NestedLaws
pub mod NumberRows
mod PlacedLaws
mod Rows
mod TextLaws
mod Trees
mod WellFormedLaws
