pub mod Window
pub mod Counts
pub mod Judging
pub mod Outcome
