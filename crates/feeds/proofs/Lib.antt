pub mod Trips
pub mod Right
