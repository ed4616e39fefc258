mod Asks
pub mod Crowds
mod Cuts
mod Fleets
pub mod Lasts
pub mod LogReads
pub mod Replicas
pub mod Refused
pub mod Replies
pub mod ShardServers
pub mod StoreServers
pub mod Told
pub mod Works
