mod Standing
mod Stopping
