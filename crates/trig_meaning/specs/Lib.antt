pub mod PartialSums
pub mod Turn
pub mod FromSomeOn
pub mod Laws
pub mod Value
