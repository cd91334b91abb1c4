pub mod Word
pub mod Packed
pub mod Rounded
pub mod Shifted
