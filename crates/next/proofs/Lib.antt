pub mod Signals
pub mod Nexts
