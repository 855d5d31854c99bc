pub mod Family
pub mod Reading
