pub mod BuildJudged
pub mod Buildable
