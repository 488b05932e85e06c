mod Laid
pub mod Room
mod Noted
pub mod Good
