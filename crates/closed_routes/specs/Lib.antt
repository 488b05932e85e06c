pub mod Walk
pub mod Readers
pub mod Looking
pub mod Whole
pub mod Following
