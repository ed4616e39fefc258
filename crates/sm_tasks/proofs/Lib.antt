mod Keeping
mod Restarts
mod Standing
mod Tallies
mod Zipped
