pub mod Facts
pub mod Tested
