pub mod Format
pub mod Shape
pub mod Stages
pub mod Reading
pub mod Writing
pub mod Copying
