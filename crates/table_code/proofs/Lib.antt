pub mod Good
pub mod Instructions
