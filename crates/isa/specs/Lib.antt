-- What a reader has to believe of this crate, in the order of document 01.
-- checks and their refusals; words: as bytes, the form of a row, the table, which words are operations, decoding, writing
pub mod Check
pub mod Bytes
pub mod Field
pub mod Table
pub mod Allowed
pub mod Decode
pub mod Encode
-- registers, lanes and operations; files and runs
pub mod Register
pub mod Meaning
pub mod File
pub mod Run
-- the numbers returned, demand 3, P1 to P12
pub mod Number
pub mod Returned
pub mod Claim
pub mod Cases
-- Inner: what the code's functions say to each other. No claim rests on these: no contract of an entry point cites them.
pub mod Valid
pub mod Segment
pub mod Stage
pub mod Sources
