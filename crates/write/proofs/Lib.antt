pub mod Answers
pub mod InOrder
pub mod Laying
