pub mod Testing
pub mod Searching
pub mod Leading
pub mod Sums
pub mod Indexed
