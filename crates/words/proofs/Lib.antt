pub mod Pages
pub mod Texts
pub mod Puts
pub mod Words
