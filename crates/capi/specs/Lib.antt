pub mod Outcomes
pub mod Products
