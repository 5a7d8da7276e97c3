pub mod AsRules
pub mod Packets
