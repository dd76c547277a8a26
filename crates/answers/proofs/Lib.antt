pub mod Endings
pub mod Rows
pub mod Told
