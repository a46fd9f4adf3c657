pub mod Reporting
pub mod Finding
