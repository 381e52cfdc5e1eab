pub mod Turned
pub mod Between
pub mod Held
