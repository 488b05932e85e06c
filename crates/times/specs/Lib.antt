pub mod Windows
pub mod Lent
pub mod Order
pub mod Taken
