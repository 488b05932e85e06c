pub mod Lent
pub mod ModelJudged
pub mod Chains
pub mod Latest
