pub mod MaskChanges
pub mod Worked
pub mod Lengths
