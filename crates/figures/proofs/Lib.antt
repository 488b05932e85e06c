pub mod Summed
pub mod Trying
pub mod Adding
pub mod Going
pub mod Called
pub mod Order
pub mod Routes
pub mod Read
