pub mod Disjoint
pub mod Ids
pub mod Places
pub mod Passes
mod Records
pub mod Regrouped
pub mod Turns
