pub mod Benches
pub mod Console
pub mod Controller
pub mod Packets
pub mod Records
pub mod State
pub mod Version
