pub mod Sentences
pub mod Refusals
pub mod Runs
pub mod Planners
pub mod Demands
pub mod Products
pub mod All
