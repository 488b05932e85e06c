pub mod Seen
pub mod Range
pub mod SoundJudged
pub mod Once
pub mod ValuesOverMakers
pub mod MovesOverMakers
pub mod MovesJudged
