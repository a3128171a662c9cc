pub mod Cased
pub mod Loops
pub mod Passed
pub mod Views
