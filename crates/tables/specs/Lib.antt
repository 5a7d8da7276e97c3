pub mod Shown
pub mod Table
