pub mod Touched
pub mod Rest
