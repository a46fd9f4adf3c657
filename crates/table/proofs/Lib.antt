pub mod Laws
pub mod Numbers
pub mod Agreeing
pub mod Told
pub mod Walked
pub mod Going
pub mod Accepted
pub mod Complete
pub mod Laid
mod Parts
pub mod Decided
pub mod Prefixes
