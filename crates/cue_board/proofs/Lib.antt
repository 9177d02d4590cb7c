pub mod BoardLemmas
pub mod ClaimLemmas
pub mod RoomLemmas
