pub mod Laid
pub mod Tens
pub mod Lengths
