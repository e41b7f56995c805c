pub mod ObservationLemmas
pub mod TellingLemmas
pub mod FollowingLemmas
pub mod RecordingLemmas
pub mod RunLemmas
