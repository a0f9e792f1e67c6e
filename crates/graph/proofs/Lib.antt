mod Turning
mod Derivations
pub mod Paths
pub mod Definedness
mod Listed
pub mod Tested
pub mod Saturated
pub mod Worked
mod Ungrounded
