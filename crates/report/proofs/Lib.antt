pub mod Bounds
pub mod Told
pub mod Shown
