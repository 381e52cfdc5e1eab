pub mod Model
pub mod Logs
pub mod Finders
pub mod Index
pub mod IndexLemmas
pub mod Filing
pub mod Told
pub mod Laws
