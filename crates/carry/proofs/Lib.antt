-- What the proofs of `carry` share, and the laws of what is carried out.
pub mod Appended
pub mod Carrying
pub mod PlanFits
pub mod Beside
pub mod OwnPlaces
pub mod DeliveredLength
pub mod DeliverPast
pub mod HeldAgree
