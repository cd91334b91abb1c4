-- What the contracts of the search cite.
pub mod States
pub mod Marks
pub mod Site
pub mod Walk
pub mod Stands
pub mod Store
pub mod Frame
pub mod Pend
pub mod Records
pub mod Kept
pub mod Path
pub mod Registers
pub mod Sim
pub mod Steps
pub mod Climb
