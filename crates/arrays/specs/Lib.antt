pub mod View
pub mod Stores
pub mod Places
pub mod Statuses
pub mod Denials
pub mod Rulings
