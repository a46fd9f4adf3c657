pub mod View
pub mod Calls
pub mod Rulings
pub mod Replies
pub mod Beside
pub mod Fresh
pub mod Driven
