-- The laws of the reader's definitions, in the order in which they lean on each other.
-- the list of what is due
pub mod Left
pub mod CodeOperands
pub mod Operands
pub mod FormulaWord
pub mod TermWord
pub mod RangeBounds
pub mod Dues
pub mod Turn
pub mod Bounds
-- the numbers of tokens
pub mod Counted
pub mod Numbered
-- the tables
pub mod After
pub mod Laid
pub mod Held
pub mod Regions
pub mod Marks
pub mod Ranged
pub mod Procs
pub mod Tables
pub mod Shallow
pub mod Stays
pub mod Bodies
pub mod ReadSheet
-- the lines before the formula
pub mod Keys
pub mod Answers
pub mod NumberLines
pub mod ArrayLine
pub mod CellNames
pub mod RangeRead
pub mod RangeLine
pub mod GivenItems
pub mod GivenLine
pub mod Declares
-- a formula's line
pub mod Packed
pub mod Lexed
pub mod Spelt
pub mod Bits
pub mod Entries
pub mod Opened
pub mod RangeDues
pub mod Faults
pub mod Beside
pub mod Loop
pub mod SortNumbers
pub mod Scan
pub mod Subtrees
pub mod FormulaRest
-- the lines in order
pub mod FirstLines
pub mod AllLines
pub mod Alike
pub mod ProcedureLines
pub mod ProcedureBody
pub mod Cleared
pub mod Only
