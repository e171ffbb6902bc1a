pub mod Boundary
pub mod Layout
pub mod Tables
pub mod Tree
pub mod Laws
pub mod Examples
