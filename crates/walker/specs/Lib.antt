-- What the contracts of the walk's functions cite, beside the definitions of `search`.
pub mod Steps
pub mod Terms
pub mod Climbing
pub mod Frames
pub mod Loop
pub mod Walks
pub mod Blocks
pub mod Walked
