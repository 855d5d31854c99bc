pub mod Triangle
pub mod Corners
pub mod Shift
pub mod Signed
pub mod Walk
pub mod Kept
