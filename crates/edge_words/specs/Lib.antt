pub mod Canonical
pub mod Letters
pub mod Reading
pub mod Stable
pub mod Word
