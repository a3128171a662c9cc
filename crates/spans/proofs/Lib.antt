mod Outside
pub mod Ones
