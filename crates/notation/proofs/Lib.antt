mod Choosing
pub mod Views
pub mod Naming
mod Rowing
mod Froms
mod Steps
mod Lines
mod Packs
mod Showings
mod Again
mod Cells
mod RowTrips
pub mod Answers
pub mod Fronts
mod Sizes
mod Onward
pub mod Trips
mod Ruled
mod Reached
mod Wholes
mod Telling
pub mod Truths
pub mod TrueFaults
