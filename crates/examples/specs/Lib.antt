pub mod Words
pub mod Spare
pub mod Cases
pub mod Examples
pub mod Damaged
