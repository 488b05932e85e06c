pub mod Sorted
pub mod Ascending
pub mod Listing
pub mod Taking
pub mod Timing
pub mod Following
pub mod Writing
