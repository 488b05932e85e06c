pub mod Changes
pub mod Asking
pub mod Put
