pub mod Text
pub mod Writing
pub mod Sheet
pub mod Pages
pub mod Classes
pub mod Finding
pub mod Refusing
