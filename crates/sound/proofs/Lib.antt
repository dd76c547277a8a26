mod Whole
pub mod Facts
