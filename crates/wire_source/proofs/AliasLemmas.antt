-- Aliases of a name among records.
use Rattle.std.proofs.Common.{◌≡◌, ℕ, ◌+◌, ◌<◌, List, [], ◌∷◌, ◌++◌, length, take, drop, get_or, sym, ap, ◌∙◌, append_assoc}
use Rattle.std.proofs.lemmas.List.{take_more, take-append-drop}
use Rattle.naptr_data.specs.Zones.{Labels}
use Rattle.dns_wire.specs.declared.record.Record.{Record}
use Rattle.wire_source.specs.Readings.{HasNoAlias, IsAlias, IsFirstAlias}

-- a list is cut at an element
cut_at : (xs : List Record) (i : ℕ) (x : Record) → i < length xs → x ≡ get_or xs i x → xs ≡ take i xs ++ x ∷ drop (i + 1) xs
cut_at xs i x within is =
    sym (take-append-drop (i + 1) xs)
    ∙ ap (λ l. l ++ drop (i + 1) xs) (take_more xs i x within ∙ ap (λ y. take i xs ++ y ∷ []) (sym is))
    ∙ append_assoc (take i xs) (x ∷ []) (drop (i + 1) xs)

-- an alias with none before it is the first
pub alias_first : (name : Labels) (records : List Record) (i : ℕ) (x : Record) (target : Labels) → i < length records → x ≡ get_or records i x
    → HasNoAlias name (take i records) → IsAlias name x target → IsFirstAlias name records target
alias_first name records i x target within is none here = record {
  before = take i records;
  one = x;
  after = drop (i + 1) records;
  parts = cut_at records i x within is;
  here = here;
  first = none;
}
