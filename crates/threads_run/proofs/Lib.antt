pub mod EndsBelow
pub mod RunLemmas
pub mod SidesInPlace
pub mod TextLemmas
pub mod DeliveryLemmas
pub mod LawLemmas
