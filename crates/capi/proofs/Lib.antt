pub mod Codes
pub mod OneAnswer
