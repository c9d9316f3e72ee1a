pub mod Rising
pub mod Turned
pub mod Closing
pub mod Given
pub mod OneAnswer
