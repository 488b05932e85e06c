pub mod Scratch
pub mod Low
pub mod Laid
pub mod Going
pub mod Called
pub mod Order
