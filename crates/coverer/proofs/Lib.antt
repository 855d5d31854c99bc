mod Shut
mod Reached
mod Lines
pub mod Sure
pub mod Between
