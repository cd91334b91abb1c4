-- Lines, Ranges, Chunks, Words, Texts: the code's loops, and the moved sheet in the pieces that are put, with its length. The others: that
-- what the mover does with the text of a sheet and its tables is the move of the sheet. MovedLines: the lines before those of formulas.
-- MovedRanges: the line of ranges. MovedChunks, MovedTokens, MovedFormulas: formulas that are written anew, by the table of tokens. MovedTidied:
-- the text of formulas without empty ranges. MovedTabled: the lines of formulas, and the tables of a sheet. MovedWords, MovedPlaces: the places of
-- words that round down. MovedText: the moves.
pub mod Lines
pub mod Ranges
pub mod Chunks
pub mod Words
pub mod Due
pub mod Texts
pub mod MovedLines
pub mod MovedRanges
pub mod MovedChunks
pub mod MovedTokens
pub mod MovedFormulas
pub mod MovedTidied
pub mod MovedTabled
pub mod MovedWords
pub mod MovedPlaces
pub mod MovedText
