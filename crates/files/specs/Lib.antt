pub mod Arguments
pub mod Errors
