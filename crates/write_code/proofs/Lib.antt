pub mod Good
pub mod Overs
pub mod Sizes
