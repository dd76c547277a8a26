mod Endings
mod Loops
mod Marks
mod Both
