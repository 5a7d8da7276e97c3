pub mod Frame
pub mod Number
pub mod Packet
pub mod Record
