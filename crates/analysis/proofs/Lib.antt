mod Climbs
mod Table
mod Turning
mod Settling
mod Starting
mod Marked
mod Answering
pub mod Right
pub mod Replies
