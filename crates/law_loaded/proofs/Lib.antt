pub mod Good
pub mod Given
pub mod Tables
pub mod Lines
pub mod Leaves
