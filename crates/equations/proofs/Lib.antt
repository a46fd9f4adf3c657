pub mod Counting
pub mod Layers
pub mod Lawful
pub mod Accepted
pub mod Places
mod Bounds
mod Scanned
mod Middle
mod Keeping
mod Words
mod Summed
mod Front
mod Sided
