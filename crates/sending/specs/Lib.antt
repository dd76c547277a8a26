pub mod Generations
pub mod JobControl
pub mod Decisions
