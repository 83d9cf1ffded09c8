-- Repeats, or not; wildcards and folding.
use Rattle.std.proofs.Common.{◌≡◌, inl, inr, ℕ, List, [], ◌∷◌, ap, arith}
use Rattle.std.proofs.lemmas.Bool.Decides.{nat_tests}
use Rattle.enum_base.specs.Folding.{folded, folded_byte}
use Rattle.dns_name.specs.Name.{AreSame, folded_labels}
use Rattle.naptr_data.specs.Zones.{Labels, star}
use Rattle.naptr_data.proofs.DecideLemmas.{Either, numbers, lists, same_or_not}
use Rattle.dns_wire.specs.Rdata.{rdata_of}
use Rattle.dns_wire.specs.declared.record.Record.{Record}
use Rattle.zone_build.specs.Zone.{AreRepeats, IsWildcard}

pub repeats_or_not : (one other : Record) → Either (AreRepeats one other)
repeats_or_not one other = all (same_or_not one.owner other.owner) (numbers one.kind other.kind) (lists numbers (rdata_of one.content) (rdata_of other.content))
  where
    all : Either (AreSame one.owner other.owner) → Either (one.kind ≡ other.kind)
        → Either (rdata_of one.content ≡ rdata_of other.content) → Either (AreRepeats one other)
    all (inl a) (inl b) (inl c) = inl ((a, b), c)
    all (inr a) b c = inr (λ r. a r.0.0)
    all (inl a) (inr b) c = inr (λ r. b r.0.1)
    all (inl a) (inl b) (inr c) = inr (λ r. c r.1)

folded_star : (b : ℕ) → folded_byte b ≡ 42 → b ≡ 42
folded_star b e = grind (arith, nat_tests)

pub star_label : (label : List ℕ) → folded label ≡ star → label ≡ star
star_label [] e = absurd (cc)
star_label (b ∷ []) e = let f : folded_byte b ≡ 42 = cc in ap (λ x. x ∷ []) (folded_star b f)
star_label (b ∷ c ∷ label) e = absurd (cc)

-- a name whose folded form is a wildcard is one
pub wildcard_folded : (name : Labels) → IsWildcard (folded_labels name) → IsWildcard name
wildcard_folded [] (rest, is) = absurd (cc)
wildcard_folded (label ∷ name) (rest, is) =
    let f : folded label ≡ star = cc in
    (name, ap (λ l. l ∷ name) (star_label label f))
