pub mod Heads
pub mod Layout
pub mod Measured
pub mod Rows
