pub mod Candidates
pub mod Counts
pub mod Cuts
pub mod Kept
pub mod Lists
pub mod Orders
pub mod Prunings
pub mod Results
pub mod OneResult
mod UnitCircle
mod Crossings
mod Numbered
mod Placed
mod Shown
mod Walked
mod Rounded
mod Heights
