pub mod Same
pub mod Stages
pub mod Told
