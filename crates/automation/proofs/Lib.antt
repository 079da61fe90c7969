mod Places
mod Looks
mod Running
mod Stands
mod Taken
