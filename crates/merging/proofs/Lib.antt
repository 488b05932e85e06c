pub mod Sums
pub mod Fits
pub mod Joined
