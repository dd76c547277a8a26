mod Others
mod Ended
