pub mod Faults
pub mod Causes
pub mod Trees
pub mod Tile
pub mod Stack
pub mod Laws
