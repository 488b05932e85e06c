pub mod Links
pub mod Back
pub mod Level
