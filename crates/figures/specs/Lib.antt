pub mod Outcomes
pub mod Figures
pub mod Adding
pub mod Laws
