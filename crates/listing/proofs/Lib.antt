pub mod Determined
pub mod Ending
pub mod LineParts
pub mod LineWritten
pub mod Records
pub mod Vectors
pub mod Wrong
