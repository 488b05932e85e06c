pub mod Read
pub mod Moved
pub mod OfBoth
