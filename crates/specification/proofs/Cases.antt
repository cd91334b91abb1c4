-- Theorems over closed cases: the marked cases of document 01 and the telling cases of docs/DECISIONS.md, each table proved by running the
-- definitions, the wrong boxes that demand 3 alone shuts out, and the wrong moves that the promises of moving shut out.
pub mod Bundles
pub mod Case
pub mod Marked
pub mod Decided
pub mod Calls
pub mod Ranged
pub mod Slips
pub mod Divided
pub mod Moved
pub mod WrongBoxes
pub mod WrongMoves
