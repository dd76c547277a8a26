pub mod Chain
pub mod After
pub mod Makes
pub mod Stores
mod Fitted
pub mod Places
mod Fields
mod Buffers
mod Marks
mod Queues
mod Removed
