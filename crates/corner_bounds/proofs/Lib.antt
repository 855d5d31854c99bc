pub mod Chords
pub mod InSquare
pub mod Boxes
pub mod Units
pub mod Sags
pub mod Reaching
pub mod Tested
