mod Counting
mod Drawing
mod FirstDraws
mod InRange
mod Listing
mod NewNames
