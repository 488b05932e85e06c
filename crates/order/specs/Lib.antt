pub mod Ascent
pub mod Formed
pub mod Numbering
pub mod Chains
