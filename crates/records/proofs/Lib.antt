mod Marks
pub mod Codes
pub mod Files
mod Ranges
mod Runs
pub mod Places
pub mod Turns
mod Sofar
mod Memory
mod Copied
