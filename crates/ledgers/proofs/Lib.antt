pub mod Greatest
pub mod Fetches
pub mod Newest
pub mod Meets
pub mod Indexed
