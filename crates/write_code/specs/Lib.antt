pub mod Over
pub mod There
