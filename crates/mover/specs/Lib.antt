-- The model of the mover's code, and what its functions answer and leave.
pub mod Model
pub mod Steps
