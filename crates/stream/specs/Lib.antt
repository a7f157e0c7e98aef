-- What a reader has to believe of the state: what is kept of the bytes so far (Kept), and within a body (Body).
pub mod Body
pub mod Kept
-- calls one after the other
pub mod Cut
-- Inner: what the code's functions say to each other.
pub mod Steps
pub mod Contents
