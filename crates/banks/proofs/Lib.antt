pub mod Offered
pub mod Turns
