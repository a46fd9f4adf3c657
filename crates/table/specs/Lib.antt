pub mod Fields
pub mod Ranges
pub mod Rules
pub mod Reading
pub mod Replies
pub mod Records
pub mod WellFormed
pub mod Sound
