-- What the functions of the walk lean on, beside the laws of `search`.

-- terms and atoms: what stands in the words, what two terms are, what an atom makes of it
pub mod Memory
pub mod Terms
pub mod Spare
pub mod Atoms
pub mod Assigned
pub mod Decided
pub mod Told
pub mod Parameters
pub mod Unvalued
-- inner trees, quantifiers, leaves
pub mod Asking
pub mod Slots
pub mod Leaves
-- calls: the frame of a procedure in a call's record, and back
pub mod Filled
pub mod Saved
pub mod Headed
pub mod Restored
pub mod Calling
-- going up
pub mod Reach
pub mod Inside
pub mod Back
pub mod AskingTest
pub mod Risen
pub mod Released
pub mod Won
-- the loop, blocks, the whole walk
pub mod Due
pub mod Returned
pub mod Loops
pub mod Visited
pub mod Blocks
pub mod Started
