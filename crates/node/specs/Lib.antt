pub mod Chunks
pub mod Faults
pub mod Items
pub mod Nodes
pub mod Links
