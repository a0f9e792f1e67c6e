pub mod Answers
pub mod Sets
pub mod Meaning
pub mod Driving
pub mod KeepsNothing
