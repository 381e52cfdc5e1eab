pub mod Sites
pub mod Laws
