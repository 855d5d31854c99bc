pub mod Ring
pub mod Expression
pub mod Ordered
pub mod Whole
pub mod WholeProducts
