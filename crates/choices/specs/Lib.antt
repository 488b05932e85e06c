pub mod Visiting
pub mod Choices
pub mod Swept
pub mod Renewed
pub mod Workable
