pub mod Walks
pub mod Readers
pub mod InTurn
pub mod Changed
pub mod Plans
pub mod Flags
pub mod Marks
pub mod Follows
