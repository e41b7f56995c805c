mod DeviceLemmas
mod Due
mod Faults
mod FieldLists
pub mod Following
mod HandleValues
mod HandleWalks
mod Handles
mod InputFaults
mod Numbering
mod Placed
mod Reasons
mod Taking
mod Unread
mod Worded
