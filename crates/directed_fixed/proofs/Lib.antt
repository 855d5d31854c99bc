pub mod Rounding
pub mod Enclosing
pub mod Sizes
pub mod PiSums
