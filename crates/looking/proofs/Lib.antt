pub mod Looks
pub mod Slots
pub mod Takers
