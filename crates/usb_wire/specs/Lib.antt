pub mod Crc
pub mod Standard
pub mod Packets
pub mod Damages
pub mod Changes
