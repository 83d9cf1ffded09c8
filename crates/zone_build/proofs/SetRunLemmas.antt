-- Runs of records of one set.
use Rattle.std.proofs.Common.{◌≡◌, ◌≢◌, inl, inr, ℕ, zero, suc, ◌+◌, ◌<◌, ◌≤◌, List, [], ◌∷◌, length, take, drop}
use Rattle.std.proofs.Common.{get_or, refl, sym, ap, subst, ◌∙◌, arith, length-take}
use Rattle.std.specs.Prelude.{Contains}
use Rattle.std.specs.declared.cmp.Ordering.{Ordering}
use Rattle.std.specs.declared.cmp.Ordering.TheVariants.{Equal}
use Rattle.dns_wire.specs.declared.record.Record.{Record}
use Rattle.zone_build.specs.Zone.{IsRising, AreOneSet, weight}
use Rattle.zone_build.specs.Faults.{IsFirst, IsLarge}
use Rattle.zone_build.specs.Building.{Given, key_order, IsRun, givens_from, records_of}
use Rattle.zone_build.specs.declared.entry.Key.TheVariants.{Set}
use Rattle.naptr_data.proofs.CutLemmas.{Contains-none}
use Rattle.zone_build.proofs.ListLemmas.{turn_of}
use Rattle.zone_build.proofs.OrderLemmas.{alike_itself}
use Rattle.zone_build.proofs.RunLemmas.{run_ends, run_all}
use Rattle.zone_build.proofs.SortLemmas.{length-givens_from}
use Rattle.zone_build.proofs.SizeLemmas.{IsApart, NoneLarge, in_records, records_again, rising_ordered, none_large_more, large_first, none_large}

abbrev entry : ℕ → Record → Given
entry place one = record { place = place; given = one }

-- parts of entries are the entries of parts
take-givens : (n place : ℕ) (xs : List Record) → take n (givens_from place xs) ≡ givens_from place (take n xs)
take-givens zero place xs = refl
take-givens (suc n) place [] = refl
take-givens (suc n) place (x ∷ xs) = ap (λ l. entry place x ∷ l) (take-givens n (place + 1) xs)

drop-givens : (n place : ℕ) (xs : List Record) → drop n (givens_from place xs) ≡ givens_from (place + n) (drop n xs)
drop-givens zero place xs =
    let e : place ≡ place + 0 = omega arith in
    ap (λ k. givens_from k xs) e
drop-givens (suc n) place [] = refl
drop-givens (suc n) place (x ∷ xs) =
    let e : place + 1 + n ≡ place + suc n = omega arith in
    drop-givens n (place + 1) xs ∙ ap (λ k. givens_from k (drop n xs)) e

given_of : (n place : ℕ) (xs : List Record) (x : Record) → n < length xs → x ≡ get_or xs n x
    → entry (place + n) x ≡ get_or (givens_from place xs) n (entry (place + n) x)
given_of n place [] x within is = absurd (omega arith)
given_of zero place (y ∷ xs) x within is =
    let e : place + 0 ≡ place = omega arith in
    ap (λ k. entry k x) e ∙ ap (entry place) is
given_of (suc n) place (y ∷ xs) x within is =
    let e : place + 1 + n ≡ place + suc n = omega arith in
    subst (λ k. entry k x ≡ get_or (givens_from (place + 1) xs) n (entry k x)) e (given_of n (place + 1) xs x (omega arith) is)

-- the records in front are of the set of the first
abbrev pub AreOfOneSet : Record → List Record → Type 0
AreOfOneSet head xs = (one : Record) → Contains xs one → AreOneSet head one

alike_givens : (n place : ℕ) (xs : List Record) (head : Record) → AreOfOneSet head (take n xs) → (e : Given)
    → Contains (take n (givens_from place xs)) e → AreOneSet head e.given
alike_givens n place xs head alike e c =
    alike e.given (subst (λ l. Contains l e.given) (records_again place (take n xs))
    (in_records (givens_from place (take n xs)) e (subst (λ l. Contains l e) (take-givens n place xs) c)))

-- one more of the set
pub one_set_more : (xs : List Record) (head next : Record) (n : ℕ) → next ≡ get_or xs n next → n < length xs
    → AreOfOneSet head (take n xs) → AreOneSet head next → AreOfOneSet head (take (n + 1) xs)
one_set_more xs head next n is within alike here one c =
    elim (turn_of xs n next one within is c) [ inl old ↦ alike one old | inr new ↦ subst (AreOneSet head) (sym new) here ]

pub one_set_head : (xs : List Record) (head : Record) → head ≡ get_or xs 0 head → 0 < length xs → AreOfOneSet head (take 1 xs)
one_set_head xs head is some = one_set_more xs head head 0 is some (λ one c. absurd (Contains-none one c)) (alike_itself Set head)

-- a set ends at the first record that is of another
pub set_ends : (xs : List Record) (head next : Record) (n : ℕ) (o : Ordering) → IsRising xs → head ≡ get_or xs 0 head
    → next ≡ get_or xs n next → n < length xs → AreOfOneSet head (take n xs) → o ≡ key_order Set head next → o ≢ Equal
    → (place : ℕ) → IsRun Set (givens_from place xs) n
set_ends xs head next n o rising first is within alike order not place =
    let e : place + 0 ≡ place = omega arith in
    let some : 0 < length xs = omega arith in
    let whole = length-givens_from place xs in
    run_ends Set (givens_from place xs) (entry place head) (entry (place + n) next) n o
    (rising_ordered place xs rising)
    (subst (λ k. entry k head ≡ get_or (givens_from place xs) 0 (entry k head)) e
    (given_of 0 place xs head some first)) (given_of n place xs next within is) (omega (arith, whole, within))
    (alike_givens n place xs head alike) order not

-- all are of one set
pub set_whole : (xs : List Record) (head : Record) (n : ℕ) → 0 < length xs → length xs ≤ n
    → AreOfOneSet head (take n xs) → (place : ℕ) → IsRun Set (givens_from place xs) (length xs)
set_whole xs head n some end alike place =
    let whole = length-givens_from place xs in
    subst (IsRun Set (givens_from place xs)) whole
    (run_all Set (givens_from place xs) (entry place head) n (omega (arith, whole, some))
    (omega (arith, whole, end)) (alike_givens n place xs head alike))

pub rising_drop : (n : ℕ) (xs : List Record) → IsRising xs → IsRising (drop n xs)
rising_drop zero xs r = r
rising_drop (suc n) [] r = tt
rising_drop (suc n) (x ∷ xs) r = rising_drop n xs r.1

-- a run of what is left is one of the whole
pub run_left : (xs rest : List Record) (at size : ℕ) → rest ≡ drop at xs
    → ((place : ℕ) → IsRun Set (givens_from place rest) size)
    → IsRun Set (drop at (givens_from 0 xs)) (length (take size rest))
run_left xs rest at size is run =
    let whole = length-givens_from 0 rest in
    let within = (run 0).within in
    let n : size ≡ length (take size rest) = omega (arith, whole, within, length-take size rest) in
    subst (IsRun Set (drop at (givens_from 0 xs))) n (subst (λ l. IsRun Set l size) (ap (givens_from (0 + at)) is ∙ sym (drop-givens at 0 xs)) (run (0 + at)))

-- the entries of a set of records, and what they weigh
part_of_givens : (xs part : List Record) (at size : ℕ) → part ≡ take size (drop at xs) → records_of (take size (drop at (givens_from 0 xs))) ≡ part
part_of_givens xs part at size cut =
    ap (λ l. records_of (take size l)) (drop-givens at 0 xs) ∙ ap records_of (take-givens size (0 + at) (drop at xs))
    ∙ records_again (0 + at) (take size (drop at xs)) ∙ sym cut

-- a set that is not too large
pub set_passed : (xs part : List Record) (at size : ℕ) → IsApart (givens_from 0 xs) at
    → IsRun Set (drop at (givens_from 0 xs)) size → part ≡ take size (drop at xs) → ¬ (60_000 < weight part)
    → NoneLarge (givens_from 0 xs) at → NoneLarge (givens_from 0 xs) (at + size)
set_passed xs part at size apart run cut small none =
    none_large_more (givens_from 0 xs) (take size (drop at (givens_from 0 xs))) at size apart run refl
    (λ l. small (subst (λ p. 60_000 < weight p) (part_of_givens xs part at size cut) l)) none

-- the first set that is too large
pub set_met : (xs part : List Record) (at size : ℕ) → IsApart (givens_from 0 xs) at
    → IsRun Set (drop at (givens_from 0 xs)) size → part ≡ take size (drop at xs) → 60_000 < weight part
    → NoneLarge (givens_from 0 xs) at → at < length xs → (one : Record) × IsFirst (IsLarge xs) xs at one
set_met xs part at size apart run cut large none within =
    let whole = length-givens_from 0 xs in
    subst (λ l. (one : Record) × IsFirst (IsLarge l) l at one) (records_again 0 xs)
    (large_first (givens_from 0 xs) (take size (drop at (givens_from 0 xs))) at size apart run refl
    (subst (λ p. 60_000 < weight p) (sym (part_of_givens xs part at size cut)) large) none
    (omega (arith, whole, within)))

-- no set is too large
pub none_met : (xs : List Record) (at : ℕ) → length xs ≤ at → NoneLarge (givens_from 0 xs) at → (one : Record) → Contains xs one → ¬ IsLarge xs one
none_met xs at end none =
    let whole = length-givens_from 0 xs in
    subst (λ l. (one : Record) → Contains l one → ¬ IsLarge l one) (records_again 0 xs) (none_large (givens_from 0 xs) at (omega (arith, whole, end)) none)
