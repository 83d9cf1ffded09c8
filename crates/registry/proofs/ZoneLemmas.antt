-- A valid zone is the one that its records make.
use Rattle.std.proofs.Common.{◌≡◌, ◌≢◌, inl, inr, ◌+◌, ◌-◌, List, [], ◌∷◌, ◌++◌, length, take, drop, get_or, refl, sym, ap, subst, ◌∙◌, arith}
use Rattle.std.specs.Prelude.{Contains}
use Rattle.std.specs.declared.cmp.Ordering.TheVariants.{Less, Equal}
use Rattle.std.proofs.lemmas.List.{drop_more, length-take-le, take-append-drop, take_all}
use Rattle.naptr_data.specs.Zones.{Labels}
use Rattle.naptr_data.proofs.CutLemmas.{head_or_after}
use Rattle.dns_wire.specs.Kinds.{soa}
use Rattle.dns_wire.specs.declared.record.Record.{Record}
use Rattle.zone_build.specs.Zone.{Zone, AreRepeats, IsCanonical, IsValid, order_of}
use Rattle.zone_build.specs.Built.{IsBuilt, IsFirstRepeat}
use Rattle.zone_build.proofs.ListLemmas.{AllByRecursion-contains, AllByRecursion-made}
use Rattle.zone_build.proofs.OrderLemmas.{repeats_equal}
use Rattle.registry.proofs.ChangeLemmas.{zone_of}
use Rattle.registry.proofs.FillLemmas.{earlier_at}

-- a record is the first of its repeats among records in canonical order
first_itself : (records : List Record) → IsCanonical records → (kept : Record) → Contains records kept → IsFirstRepeat records kept kept
first_itself [] c kept h = absurd c
first_itself (the_soa ∷ rest) c kept h = elim (head_or_after the_soa rest kept h) [
  | inl here ↦ (
    0,
    record {
      before = [];
      after = rest;
      parts = ap (λ x. x ∷ rest) (sym here);
      at = refl;
      here = ((refl, refl), refl);
      first = tt;
    },
  )
  | inr there ↦ later there
]
  where
    later : Contains rest kept → IsFirstRepeat (the_soa ∷ rest) kept kept
    later (k, l, e) = (
      k + 1,
      record {
        before = the_soa ∷ take k rest;
        after = drop (k + 1) rest;
        parts = ap (λ l. the_soa ∷ l) (sym (take-append-drop k rest)
            ∙ ap (λ l. take k rest ++ l) (drop_more rest k kept l ∙ ap (λ x. x ∷ drop (k + 1) rest) e));
        at = omega (arith, length-take-le k rest (omega (arith, l)));
        here = ((refl, refl), refl);
        first = (
          (λ same. AllByRecursion-contains (λ (r : Record). r.kind ≢ soa) rest kept c.1 (k, l, e) (same.0.1 ∙ c.0)),
          AllByRecursion-made (λ earlier. ¬ AreRepeats kept earlier) (take k rest) (λ y d same.
              let less : order_of y kept ≡ Less = earlier_at rest k kept c.2 l (sym e) y d in
              let equal : order_of y kept ≡ Equal = repeats_equal y kept ((sym same.0.0, sym same.0.1), sym same.1) in
              let no : Less ≡ Equal = sym less ∙ equal in
              cc no),
        );
      },
    )

pub valid_is_built : (zone : Zone) → IsValid zone → IsBuilt zone.records zone
valid_is_built zone v = record {
  apex = λ one c k. sym (v.soa one c k) ∙ sym (v.folded one c);
  kept = λ kept c. (
    kept,
    first_itself zone.records v.order kept c,
    record {
      owner = sym (v.folded kept c);
      kind = refl;
      class = refl;
      content = refl;
      ttl = record {
        some = (kept, c, (refl, refl), refl);
        least = λ other d same. let e = v.ttl kept other c d same in omega (arith, e);
      };
    },
  );
  all = λ one c. (one, c, ((refl, refl), refl));
  order = v.order;
}

pub same_zone : (apex : Labels) (records : List Record) (zone : Zone) → apex ≡ zone.apex → records ≡ zone.records
    → ◌≡◌ {A = Zone} (record { apex = apex; records = records }) zone
same_zone apex records zone e f =
    ap (with_apex records) e ∙ ap (with_records zone.apex) f
  where
    with_apex : List Record → Labels → Zone
    with_apex l a = record { apex = a; records = l }

    with_records : Labels → List Record → Zone
    with_records a l = record { apex = a; records = l }

-- a zone that is read part by part
pub parts_make : (zone : Zone) → IsValid zone → (records : List Record) → records ≡ zone.records → (apex : Labels) (the_soa d : Record) (rest : List Record)
    → apex ≡ zone.apex → the_soa ≡ get_or records 0 d → rest ≡ take (length records - 1) (drop 1 records) → zone_of apex the_soa rest ≡ zone
parts_make zone v records is apex the_soa d rest e f g =
    same_zone apex (the_soa ∷ rest) zone e (by records (subst IsCanonical (sym is) v.order) f g ∙ is)
  where
    by : (l : List Record) → IsCanonical l → the_soa ≡ get_or l 0 d → rest ≡ take (length l - 1) (drop 1 l) → the_soa ∷ rest ≡ l
    by [] c s r = absurd c
    by (x ∷ xs) c s r =
        let tail : rest ≡ xs = r ∙ take_all (length (x ∷ xs) - 1) xs (omega arith) in
        ap (λ y. y ∷ rest) s ∙ ap (λ l. x ∷ l) tail
