pub mod Answers
pub mod Books
pub mod Entering
pub mod Filing
