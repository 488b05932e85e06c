pub mod Front
pub mod Handed
