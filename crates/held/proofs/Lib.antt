mod Joined
mod Puts
pub mod Loads
mod Writes
pub mod Laying
pub mod Again
pub mod Refusals
pub mod Trips
