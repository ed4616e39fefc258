mod Acks
mod Leases
mod Moves
mod Permits
mod Records
mod Stays
mod Views
