-- The promises of the public call.
pub mod Lent
pub mod Answered
pub mod Moved
pub mod Ways
pub mod Moves
pub mod Demands
pub mod Parts
pub mod Budgets
