-- What each command is to do.
pub mod Word
pub mod Check
pub mod At
pub mod Cover
pub mod Job
pub mod Demo
pub mod Search
pub mod Tile
pub mod Unfold
pub mod Upgrade
pub mod Draw
pub mod Points
pub mod Merge
pub mod Family
pub mod Path
