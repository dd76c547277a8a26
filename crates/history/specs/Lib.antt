pub mod Ledger
pub mod Acts
pub mod Tally
pub mod History
pub mod Takes
pub mod Demand1
pub mod Demand3
pub mod Example
