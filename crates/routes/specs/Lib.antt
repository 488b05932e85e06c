pub mod Reach
pub mod Sections
pub mod Readers
pub mod Rows
pub mod Routed
pub mod Work
pub mod Plan
pub mod Numbered
