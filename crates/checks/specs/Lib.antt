pub mod Named
pub mod Judged
pub mod Once
pub mod Allowed
pub mod Moves
