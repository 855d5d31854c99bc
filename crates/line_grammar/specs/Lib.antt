pub mod Text
pub mod Input
pub mod Faults
pub mod Offence
pub mod Form
pub mod Part
pub mod Reading
pub mod Laws
