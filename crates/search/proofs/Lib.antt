-- The laws behind the proofs of the walk. Nothing here has to be believed: the checker does.

-- the tree as the walk knows it is the specification's, and the walk with continuations is the run
pub mod Answers
pub mod Continuation
pub mod Walk
pub mod Alike
pub mod Frozen
pub mod Told
pub mod Tracks
pub mod Sited
pub mod Sites
-- what the words hold, and what stays of it: slots, lists, records, the path
pub mod Slots
pub mod Pending
pub mod RecordsKept
pub mod Changes
pub mod Paths
-- what is due, by the code of its token
pub mod Subformulas
pub mod Quantified
pub mod ByCode
pub mod Gauges
pub mod Heads
pub mod Visits
-- steps down: to each kind of frame, and from each kind of node
pub mod Descent
pub mod Simple
pub mod Binders
pub mod Ranges
pub mod Inner
pub mod Called
pub mod LeafSteps
-- steps up: from each kind of record
pub mod Stripped
pub mod Tops
pub mod Restored
pub mod Resumed
pub mod NextValue
pub mod EndAll
pub mod Judged
pub mod Leave
