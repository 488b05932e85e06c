pub mod Parts
pub mod Order
pub mod Ranges
pub mod Bits
pub mod Below
