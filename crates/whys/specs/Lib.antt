pub mod Window
pub mod Plain
pub mod Rows
pub mod Noted
pub mod Given
pub mod Codes
