pub mod Asked
pub mod Stack
pub mod Groups
pub mod Walk
pub mod Links
