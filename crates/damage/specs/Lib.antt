pub mod Flags
pub mod Starts
pub mod Saved
pub mod Scratch
pub mod Keeping
