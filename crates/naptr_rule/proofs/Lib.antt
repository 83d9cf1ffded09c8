pub mod BareLemmas
pub mod InLemmas
pub mod RdataLemmas
pub mod RuleLemmas
