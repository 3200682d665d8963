mod Indexing
mod Noting
mod Leading
