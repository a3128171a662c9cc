pub mod ByHand
pub mod Checked
pub mod Once
pub mod Operations
pub mod Views
