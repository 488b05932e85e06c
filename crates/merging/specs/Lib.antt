pub mod Merge
pub mod Laws
