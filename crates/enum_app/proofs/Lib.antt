pub mod FromKeyLemmas
pub mod KeyLemmas
pub mod NumberFaultsLemmas
pub mod NumberLemmas
pub mod ServeLemmas
pub mod SameKeyLemmas
