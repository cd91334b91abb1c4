-- Put: bytes put one after the other. Digits: the digits of a number. Pieces: a line in the pieces that are put. Loop: lines put in a
-- loop. Shown: the model's block is the specification's. Bound: a block's length is a number of the machine.
pub mod Put
pub mod Digits
pub mod Pieces
pub mod Loop
pub mod Shown
pub mod Bound
