mod Sets
mod Notes
pub mod Endings
mod Owning
pub mod Ranges
