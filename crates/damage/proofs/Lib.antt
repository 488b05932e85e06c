pub mod Stored
pub mod Packed
pub mod Given
pub mod KeptRows
pub mod Padded
pub mod Alone
pub mod Keeping
