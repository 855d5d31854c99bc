pub mod Ratio
pub mod Respect
pub mod Fraction
pub mod Written
pub mod Decimal
pub mod Ring
pub mod RingLaws
