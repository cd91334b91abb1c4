-- The laws in the order in which they lean on each other.

-- of the machine: results as words, elements of arrays, what a run gives, the words before the dues, the stack, tokens, what stands off the
-- stack, one parameter, one step, the loop
pub mod Results
pub mod Elements
pub mod Run
pub mod Low
pub mod Stack
pub mod Here
pub mod Off
pub mod Parameter
pub mod Step
pub mod Loop
-- of environments: frozen terms, the frames of procedures, terms as programs of the machine, the arguments of a call
pub mod Frozen
pub mod Environment
pub mod Program
pub mod Arguments
-- of open parameters: the calls around a procedure, the open parameters of one call, of all that are active
pub mod Chain
pub mod Revalue
pub mod Settle
-- of a call that is entered: what an argument's slot says, the frames of later procedures, the arguments one after the other, the terms that the
-- parameters stand for
pub mod Slots
pub mod Indexed
pub mod Outer
pub mod Filling
pub mod Entered
