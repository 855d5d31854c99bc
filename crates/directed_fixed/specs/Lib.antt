pub mod Rounding
pub mod Ends
