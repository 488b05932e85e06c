pub mod Tried
pub mod Parts
pub mod Few
pub mod ByEntry
pub mod Naming
pub mod Known
pub mod Walk
