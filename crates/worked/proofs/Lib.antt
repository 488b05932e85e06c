pub mod Proved
pub mod Files
