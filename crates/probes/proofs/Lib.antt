pub mod Notes
pub mod Undone
pub mod Guiding
pub mod Filling
