pub mod Cuts
pub mod Places
pub mod Prefixes
pub mod Search
pub mod Seen
pub mod Words
pub mod Laws
