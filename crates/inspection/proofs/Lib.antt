mod Rows
mod Smallest
mod Seen
