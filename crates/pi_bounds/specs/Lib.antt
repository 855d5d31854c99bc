pub mod Narrow
pub mod PiBetween
