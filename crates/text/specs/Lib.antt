pub mod Buffer
pub mod Lines
