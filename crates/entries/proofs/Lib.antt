pub mod Blanks
pub mod Inserts
pub mod Puts
pub mod Searches
pub mod Arrays
pub mod Flags
pub mod Found
