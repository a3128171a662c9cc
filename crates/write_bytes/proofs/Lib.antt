pub mod Chain
pub mod Codes
