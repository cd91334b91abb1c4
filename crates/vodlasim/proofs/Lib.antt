-- The demands follow from the contract of the call.
pub mod Demands
pub mod Runs
pub mod Carried
pub mod Moves
-- and so does what holds of several calls
pub mod Plots
pub mod Parts
pub mod Progress
pub mod Budgets
pub mod WrongParts
