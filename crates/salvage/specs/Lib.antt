pub mod Packing
pub mod Salvage
pub mod Promises
pub mod Saving
