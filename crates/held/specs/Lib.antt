pub mod Loading
pub mod Replies
pub mod Writing
pub mod Trips
