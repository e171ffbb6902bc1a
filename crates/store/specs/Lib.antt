pub mod Costs
pub mod Faults
pub mod Laws
pub mod Meaning
pub mod Puts
