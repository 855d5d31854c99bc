mod Reached
pub mod Leaves
pub mod Between
