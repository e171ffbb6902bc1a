pub mod Bytes
pub mod Fnv
pub mod Sha256
pub mod Rounds
pub mod Fits
pub mod Total
