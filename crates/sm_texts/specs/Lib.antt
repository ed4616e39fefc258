pub mod Replies
pub mod Texts
pub mod Saves
pub mod Keys
pub mod lemmas
