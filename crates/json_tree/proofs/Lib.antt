mod Readings
mod Trees
