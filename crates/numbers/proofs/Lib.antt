pub mod Counting
pub mod Determined
pub mod Moving
pub mod Range
pub mod Wrong
