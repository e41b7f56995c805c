pub mod Positions
pub mod Cuts
pub mod InputStrings
pub mod Named
mod NamedIndices
pub mod NextRoles
mod StringItems
pub mod StringTexts
mod StringTrees
pub mod TreeWalks
pub mod WalkSteps
pub mod Walking
