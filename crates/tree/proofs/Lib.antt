pub mod Totals
pub mod Nodewise
pub mod Bridges
pub mod Climb
pub mod Standing
