pub mod Packets
pub mod Table
