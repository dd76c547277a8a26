pub mod Check
pub mod Pass
