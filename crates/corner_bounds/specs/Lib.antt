pub mod Sag
pub mod Reaching
pub mod Laws
