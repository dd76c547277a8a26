pub mod Buffer
pub mod Signals
mod Changes
mod Zeros
pub mod Parts
mod Places
