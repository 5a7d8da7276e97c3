pub mod Asking
pub mod Determined
pub mod TableLines
pub mod Wrong
