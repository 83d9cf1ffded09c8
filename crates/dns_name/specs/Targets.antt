-- Where chains of pointers lead to (RFC 1035, section 4.1.4).
use Rattle.std.specs.Prelude.{◌≡◌, ℕ, ◌<◌, List, [], length, get_or}
use Rattle.dns_name.specs.Wire.{Field, Leads, labels_in}

-- a chain of pointers alone leads from a place to another, as pointers of a name lead: each to an offset less than its own place
pub record Hops (message : List ℕ) (from to : ℕ) : Type 0 where
  pub fields : List Field
  pub leads : Leads message from from fields to to
  pub bare : labels_in fields ≡ []

-- to each place among the first ones of a message, a place that a chain of pointers leads to from there
abbrev pub AreTargets : List ℕ → List ℕ → Type 0
AreTargets message targets = (place : ℕ) → place < length targets → Hops message place (get_or targets place 0)
