pub mod Rows
pub mod Makers
pub mod Answers
pub mod Given
pub mod Entries
pub mod Lent
