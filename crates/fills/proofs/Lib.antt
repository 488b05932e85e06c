pub mod Runs
pub mod Settled
pub mod Ran
pub mod Written
pub mod Accepted
pub mod Given
