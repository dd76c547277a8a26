pub mod Search
pub mod Filled
pub mod Words
