pub mod Slots
pub mod Verified
pub mod Turns
pub mod Lawful
pub mod Mapped
