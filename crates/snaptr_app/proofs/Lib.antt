pub mod ServesLemmas
