pub mod Laws
pub mod Order
pub mod Wrapped
pub mod Compare
pub mod Half
pub mod Decimals
pub mod Quotients
pub mod Sizes
