pub mod Integers
pub mod Below
