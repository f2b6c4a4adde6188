mod Steps
mod Exports
mod Records
mod Counts
