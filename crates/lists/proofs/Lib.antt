pub mod Listing
pub mod Given
pub mod OneAnswer
