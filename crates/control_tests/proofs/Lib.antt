mod Following
mod KindOf
