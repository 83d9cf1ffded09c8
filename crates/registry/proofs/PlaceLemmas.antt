-- Where a rule is in a set, or where it would come.
use Rattle.std.proofs.Common.{◌≡◌, ℕ, zero, suc, ◌+◌, ◌<◌, List, [], ◌∷◌, ◌++◌, length, take, drop, get_or, sym, ap, subst, ◌∙◌, arith}
use Rattle.std.specs.List.{AllByRecursion}
use Rattle.std.specs.Cmp.Lexicographic.{nat_list_cmp_total, slice_cmp}
use Rattle.std.specs.Ordering.{nat_cmp, ordering_reverse}
use Rattle.std.specs.declared.cmp.Ordering.TheVariants.{Less, Equal, Greater}
use Rattle.std.proofs.lemmas.List.{drop_more, length-take-le, take-append-drop, take_more}
use Rattle.dns_name.proofs.NameLemmas.{AllByRecursion-append}
use Rattle.naptr_rule.specs.Rdata.{rdata}
use Rattle.naptr_rule.specs.declared.rule.Naptr.{Naptr}
use Rattle.dns_wire.specs.Rdata.{rdata_of}
use Rattle.dns_wire.specs.declared.record.Record.{Record}
use Rattle.zone_build.proofs.ListLemmas.{AllByRecursion-contains, AllByRecursion-made}
use Rattle.zone_build.proofs.OrderLemmas.{bytes_cmp-equal}
use Rattle.zone_db.specs.Offering.{RdataRises}
use Rattle.registry.specs.Holding.{IsPlace}
use Rattle.registry.specs.declared.place.Place.TheVariants as place

abbrev pub Earlier : Naptr → Record → Type 0
Earlier rule one = slice_cmp nat_cmp (rdata_of one.content) (rdata rule) ≡ Less

abbrev pub Later : Naptr → Record → Type 0
Later rule one = slice_cmp nat_cmp (rdata rule) (rdata_of one.content) ≡ Less

rises_drop : (n : ℕ) (xs : List Record) → RdataRises xs → RdataRises (drop n xs)
rises_drop zero xs r = r
rises_drop (suc n) [] r = tt
rises_drop (suc n) (x ∷ xs) r = rises_drop n xs r.1

later_all : (rule : Naptr) (one : Record) (rest : List Record) → Later rule one → RdataRises (one ∷ rest) → AllByRecursion (Later rule) (one ∷ rest)
later_all rule one rest less rises = (
  less,
  AllByRecursion-made (Later rule) rest (λ y c.
      nat_list_cmp_total.trans (rdata rule) (rdata_of one.content) (rdata_of y.content) less
      (AllByRecursion-contains (λ (next : Record). slice_cmp nat_cmp (rdata_of one.content) (rdata_of next.content) ≡ Less) rest y rises.0 c)),
)

module _ (set : List Record) (rule : Naptr) (at : ℕ) (one : Record) (within : at < length set) (is : one ≡ get_or set at one) where
  rest_is : drop at set ≡ one ∷ drop (at + 1) set
  rest_is = drop_more set at one within ∙ ap (λ x. x ∷ drop (at + 1) set) (sym is)

  pub place_less : RdataRises set → Later rule (get_or set at one) → AllByRecursion (Earlier rule) (take at set) → IsPlace set rule (place.Free at)
  place_less rises less before = (
    take at set,
    drop at set,
    sym (take-append-drop at set),
    length-take-le at set (omega (arith, within)),
    before,
    subst (AllByRecursion (Later rule)) (sym rest_is)
        (later_all rule one (drop (at + 1) set) (subst (Later rule) (sym is) less) (subst RdataRises rest_is (rises_drop at set rises))),
  )

  pub place_equal : slice_cmp nat_cmp (rdata rule) (rdata_of (get_or set at one).content) ≡ Equal → IsPlace set rule (place.Taken at)
  place_equal equal = (
    take at set,
    one,
    drop (at + 1) set,
    sym (take-append-drop at set) ∙ ap (λ l. take at set ++ l) rest_is,
    length-take-le at set (omega (arith, within)),
    sym (bytes_cmp-equal (rdata rule) (rdata_of one.content)
        (subst (λ (x : Record). slice_cmp nat_cmp (rdata rule) (rdata_of x.content) ≡ Equal) (sym is) equal)),
  )

  pub place_greater : slice_cmp nat_cmp (rdata rule) (rdata_of (get_or set at one).content) ≡ Greater → AllByRecursion (Earlier rule) (take at set)
      → AllByRecursion (Earlier rule) (take (at + 1) set)
  place_greater greater before =
      subst (AllByRecursion (Earlier rule)) (ap (λ y. take at set ++ y ∷ []) is ∙ sym (take_more set at one within))
      (AllByRecursion-append (Earlier rule) (take at set) (one ∷ []) before (
        nat_list_cmp_total.antisymm (rdata_of one.content) (rdata rule) ∙ ap ordering_reverse
            (subst (λ (x : Record). slice_cmp nat_cmp (rdata rule) (rdata_of x.content) ≡ Greater) (sym is) greater),
        tt,
      ))
