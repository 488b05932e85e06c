pub mod BuildJudging
pub mod Built
