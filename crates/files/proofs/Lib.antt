pub mod Counted
pub mod HeaderAnswered
pub mod Moving
pub mod Answered
pub mod Early
