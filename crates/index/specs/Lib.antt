pub mod Walk
pub mod Index
pub mod Parts
