-- What a reader has to believe of traces, in the order of requests A9 and A10.
pub mod Trace
pub mod Verdict
-- a trace that comes in pieces, the calls that hand it in, and what they come to
pub mod Stream
pub mod Feed
pub mod Streamed
-- the numbers returned
pub mod Number
pub mod Returned
-- the traces that recorders write
pub mod Recorded
