pub mod Chained
pub mod Visited
pub mod InTurn
pub mod Whole
pub mod Sweeps
pub mod Renewed
pub mod Working
pub mod Refreshed
