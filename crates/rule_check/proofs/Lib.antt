pub mod UriLemmas
pub mod DecideLemmas
pub mod CheckLemmas
pub mod OneFaultLemmas
pub mod SomeFaultLemmas
