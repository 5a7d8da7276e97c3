pub mod Adding
pub mod Channel
pub mod Determined
pub mod Packets
pub mod Scans
pub mod Wrong
