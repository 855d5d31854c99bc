pub mod Point
pub mod Square
pub mod Outline
pub mod Apart
pub mod Fault
pub mod Region
pub mod Laws
