pub mod Owner
pub mod OwnerEmpty
pub mod OwnerIntoParts
pub mod OwnerOfParts
pub mod OwnerStateMut
