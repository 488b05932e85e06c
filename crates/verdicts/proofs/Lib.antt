pub mod Lengths
pub mod ModelJudging
pub mod Chains
pub mod JudgingMoves
pub mod JudgingTrials
pub mod Latest
