pub mod Weighings
pub mod Worked
