pub mod Shifts
pub mod Signs
