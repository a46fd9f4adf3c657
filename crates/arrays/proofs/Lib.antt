pub mod Numbers
pub mod Turns
pub mod Opened
pub mod Counting
