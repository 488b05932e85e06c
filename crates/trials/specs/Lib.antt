pub mod Once
pub mod Batch
pub mod Trials
pub mod Laws
