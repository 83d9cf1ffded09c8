pub mod BelowLemmas
pub mod CutLemmas
pub mod DecideLemmas
pub mod FoldLemmas
pub mod OfferLemmas
pub mod RisingLemmas
pub mod SomeLemmas
