pub mod Rises
pub mod Reading
pub mod Linking
