mod Handlers
mod Outcomes
mod Taken
mod Call
