pub mod Fields
pub mod Pending
pub mod Live
