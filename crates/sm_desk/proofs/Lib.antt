mod Holding
mod Rooms
mod Sounding
