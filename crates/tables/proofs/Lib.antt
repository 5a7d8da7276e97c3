pub mod Determined
pub mod LentParts
pub mod Places
pub mod Showing
pub mod Taking
pub mod Vectors
pub mod Wrong
