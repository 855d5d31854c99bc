pub mod Polynomials
pub mod Solver
pub mod Certificate
pub mod Whole
pub mod Division
mod Examples
