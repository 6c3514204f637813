pub mod Lives
pub mod Given
pub mod Sound
