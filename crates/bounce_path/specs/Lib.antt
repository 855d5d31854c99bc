pub mod Level
pub mod Bounces
pub mod Path
pub mod Crossings
pub mod Faults
