mod Puts
pub mod Fronts
