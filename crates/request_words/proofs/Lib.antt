mod ApexLemmas
mod OptionLemmas
mod PlaceLemmas
pub mod ReadingLemmas
mod RowLemmas
