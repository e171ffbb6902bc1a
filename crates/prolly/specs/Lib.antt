pub mod Hexadecimal
pub mod Named
pub mod Refusal
