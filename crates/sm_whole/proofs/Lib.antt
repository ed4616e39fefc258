mod Controls
mod Executors
mod Runs
