pub mod Laws
pub mod Nonzero
pub mod Trailing
