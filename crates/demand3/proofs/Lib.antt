pub mod AnyBoxes
pub mod BenchForC
pub mod Boxes
pub mod BoxesForC
pub mod ListForC
pub mod Lists
