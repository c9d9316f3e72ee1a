pub mod Kinds
pub mod Answers
pub mod Refusals
pub mod Seen
pub mod Read
pub mod Write
pub mod Lawful
