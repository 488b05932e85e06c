pub mod Board
pub mod Counting
pub mod Outcome
