pub mod AsOwner
