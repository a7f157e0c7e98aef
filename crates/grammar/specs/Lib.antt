-- What a reader has to believe of lines: templates, the grammar, what a line is, what writing answers and leaves, and exactly when each number is given.
pub mod Template
pub mod Grammar
pub mod Line
pub mod Write
pub mod Number
pub mod Returned
-- Inner: reading as the code does it, which `read-exact` settles by the modules above; and the letters' texts as the code holds them.
pub mod Follow
pub mod Search
pub mod Read
pub mod Packed
