mod DecimalLemmas
pub mod LoadedLemmas
pub mod OutsideLemmas
pub mod PaddingLemmas
mod ShelfLemmas
pub mod StageLemmas
pub mod WrittenLemmas
