pub mod Had
pub mod Rules
pub mod Unbroken
pub mod Same
