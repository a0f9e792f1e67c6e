pub mod Sums
pub mod Added
pub mod Ranges
pub mod Puts
mod Consistency
mod Driven
