pub mod Runs
pub mod Widths
pub mod Copies
