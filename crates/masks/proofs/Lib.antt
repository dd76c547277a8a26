pub mod Masks
mod Pending
