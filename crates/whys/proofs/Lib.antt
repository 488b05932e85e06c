pub mod Tests
mod Rows
mod Parts
pub mod Noted
