mod ProcessRows
mod ThreadRows
mod Added
