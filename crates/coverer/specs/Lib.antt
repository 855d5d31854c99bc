pub mod Causes
pub mod Words
pub mod Stack
pub mod Begun
pub mod Written
pub mod Laws
