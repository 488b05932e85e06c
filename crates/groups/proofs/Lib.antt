pub mod Asking
pub mod Best
pub mod Marking
pub mod Reach
pub mod Entering
pub mod Going
pub mod Closing
pub mod Sweeping
