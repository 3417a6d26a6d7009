mod Ending
mod Lines
