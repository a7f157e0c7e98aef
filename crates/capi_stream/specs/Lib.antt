-- What a reader has to believe of the calls: the bytes of the marks (Marks), those of a state, and what each call answers (Calls).
pub mod Marks
pub mod Calls
-- Inner: how the marks are read.
pub mod Read
