mod Decided
mod Targets
mod Carried
mod Refused
