pub mod Answer
pub mod Laid
