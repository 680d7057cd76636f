mod AskedRequests
pub mod Lists
pub mod RefusedOffers
pub mod ServedRequests
