pub mod Seen
pub mod Solving
pub mod Rounding
pub mod Refusing
pub mod Analysing
pub mod Answering
