pub mod Bases
pub mod Decisions
pub mod Fleet
pub mod Replicas
pub mod ShardServers
pub mod Steps
pub mod StoreServers
