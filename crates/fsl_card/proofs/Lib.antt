pub mod ReadAgain
pub mod Deciding
pub mod ArgumentLemmas
pub mod CardLemmas
pub mod FrontLemmas
pub mod DecodedLemmas
pub mod SealLemmas
