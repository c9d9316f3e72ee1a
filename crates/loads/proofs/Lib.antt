pub mod Counted
pub mod Told
pub mod OneAnswer
pub mod Given
