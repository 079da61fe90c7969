pub mod Cursors
pub mod Lanes
pub mod Ramps
pub mod Rising
pub mod Slopes
