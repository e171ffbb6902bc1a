pub mod Codes
pub mod Of
pub mod Limits
pub mod Table
pub mod Texts
pub mod Ints
