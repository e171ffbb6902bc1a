pub mod RoundTrip
pub mod Same
pub mod Order
pub mod Bitwise
pub mod Schedule
pub mod Blocks
pub mod Rotations
pub mod Eights
