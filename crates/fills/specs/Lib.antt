pub mod Running
pub mod Accepted
