pub mod Skipped
pub mod Values
