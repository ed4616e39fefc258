mod Agreement
mod Caps
mod Compared
mod Knowing
mod Places
mod Replays
mod Resettled
