mod RowLemmas
pub mod RowNames
