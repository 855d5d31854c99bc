pub mod Parts
pub mod Heights
pub mod Crossed
pub mod Gaps
pub mod Levels
pub mod Places
pub mod Found
