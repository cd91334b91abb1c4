pub mod Layout
pub mod Codes
pub mod Locals
pub mod Kept
pub mod Ranges
pub mod Frames
pub mod Leaves
