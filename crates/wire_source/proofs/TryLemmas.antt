-- Tries, one after another.
use Rattle.std.proofs.Common.{◌≡◌, ◌≢◌, inl, inr, ℕ, ◌+◌, ◌-◌, ◌*◌, ◌%◌, ◌^◌, ◌<◌, ◌≤◌, min, List, [], ◌∷◌, Result, Ok, Err, refl, sym, ap, subst, ◌∙◌, arith}
use Rattle.std.specs.Prelude.{IfOk, Option, Some, None, Bool, true, false, not, is_some, option_map}
use Rattle.enum_base.specs.Causes.{Rose, many_more, one_more}
use Rattle.enum_base.specs.Outside.{WhereTold}
use Rattle.enum_base.specs.declared.fault.MemoryFault.{MemoryFault}
use Rattle.dns_name.specs.Name.{IsName}
use Rattle.naptr_data.specs.Sources.{HasFewRules, HasTrouble, KeepsNames, RuleSourceState}
use Rattle.naptr_data.specs.Zones.{Labels, IsOffer}
use Rattle.naptr_data.specs.declared.source.SourceFault.{SourceFault}
use Rattle.naptr_data.proofs.CutLemmas.{Contains-none}
use Rattle.naptr_data.specs.declared.offer.Offer.{Offer}
use Rattle.std.proofs.Math.Logic.{∥∥₁_map}
use Rattle.zone_build.specs.Plain.{told}
use Rattle.zone_build.specs.Zone.{Zone}
use Rattle.zone_db.specs.Bits.{header_of, tc_of}
use Rattle.zone_db.specs.Links.{LinkState, TellsSet}
use Rattle.zone_db.specs.Replies.{IsReply}
use Rattle.zone_db.specs.Sets.{AreZones}
use Rattle.zone_db.specs.declared.way.Way.{Way}
use Rattle.zone_db.specs.declared.way.Way.TheVariants.{Stream}
use Rattle.wire_source.specs.Laws.{IsHonest}
use Rattle.wire_source.specs.Queries.{query_bytes}
use Rattle.wire_source.specs.Readings.{IsRead}
use Rattle.wire_source.specs.Tries.{Answers, Asks, ComesTo, Ends, HasFailed, HasFewRead, Keeps, WasTrouble, answer_of, end_of, trouble_of, troubles_with}
use Rattle.zone_db.specs.declared.link.Counts.{Counts}
use Rattle.wire_source.specs.declared.tries.NoOffer.{NoOffer}
use Rattle.wire_source.specs.declared.tries.NoOffer.TheVariants as no_offer
use Rattle.wire_source.specs.declared.reading.Reading.{Reading}
use Rattle.wire_source.specs.declared.reading.Reading.TheVariants as reading
use Rattle.wire_source.specs.declared.trouble.Trouble.{Trouble}
use Rattle.wire_source.specs.declared.trouble.Trouble.TheVariants as trouble
use Rattle.wire_source.proofs.HonestLemmas.{honest}

pub was_true : (b : Bool) → not b ≡ false → b ≡ true
was_true true e = refl
was_true false e = absurd (cc)

pub was_false : (b : Bool) → not b ≡ true → b ≡ false
was_false true e = absurd (cc)
was_false false e = refl

some_is : (x y : Trouble) → Some x ≡ Some y → x ≡ y
some_is x y e = cc

-- facts of what is told
both_told : {A : Type 0} (o o' : Option A) (P Q R : A → Type 0) → o' ≡ o → ((a : A) → P a → Q a → R a) → WhereTold o P → WhereTold o' Q → WhereTold o R
both_told None o' P Q R same f p q = tt
both_told (Some a) o' P Q R same f p q = f a p (subst (λ x. WhereTold x Q) same q)

all_told : {A : Type 0} (o : Option A) (R : A → Type 0) → ((a : A) → R a) → WhereTold o R
all_told None R f = tt
all_told (Some a) R f = f a

-- no reply tells that the link failed, and none on a stream was cut short
no_link_fault : (id : ℕ) (name : Labels) (way : Way) (bytes : List ℕ) → IsRead id name way bytes (reading.Faulty trouble.LinkFault) → ⊥
no_link_fault id name way bytes (inl (fault, breaks, is)) = absurd cc
no_link_fault id name way bytes (inr (message, spells, inl (taken, reads))) = reads
no_link_fault id name way bytes (inr (message, spells, inr (not, is))) = absurd cc

no_short_stream : (id : ℕ) (name : Labels) (way : Way) (bytes : List ℕ) → way ≡ Stream → IsRead id name way bytes reading.CutShort → ⊥
no_short_stream id name way bytes stream (inl (fault, breaks, is)) = absurd cc
no_short_stream id name way bytes stream (inr (message, spells, inl ((replies, whole), short))) = absurd (omega (arith, whole stream, short))
no_short_stream id name way bytes stream (inr (message, spells, inr (not, is))) = absurd cc

-- a try whose exchange did not fail
pub tried_ok : (id : ℕ) (name : Labels) (way : Way) (s s' : LinkState) (r : Result Reading MemoryFault) → id < 2 ^ 16 → IsName name → TellsSet s
    → s'.exchanges ≡ one_more s.exchanges
    → WhereTold s.zones (λ zones. IsReply zones (query_bytes id name) way (Some s'.held))
    → WhereTold s.zones (λ zones. way ≡ Stream → tc_of (header_of s'.held).bits ≡ 0) → s'.recent ≡ 0 → s'.way ≡ way
    → IfOk r (IsRead id name way s'.held) → IfOk r HasFewRead → ComesTo 1 id name s s' r
tried_ok id name way s s' (Err memory) low named set one replied whole recent went reads few = tt
tried_ok id name way s s' (Ok read) low named set one replied whole recent went reads few = by read reads few honestly
  where
    honestly : WhereTold s.zones (λ zones. IsHonest zones name read)
    honestly =
        both_told s.zones s.zones (λ zones. AreZones zones × IsReply zones (query_bytes id name) way (Some s'.held))
        (λ zones. way ≡ Stream → tc_of (header_of s'.held).bits ≡ 0) (λ zones. IsHonest zones name read) refl
        (λ zones (are, is) w. honest zones id name way s'.held read are low named is w reads)
        (both_told s.zones s.zones AreZones (λ zones. IsReply zones (query_bytes id name) way (Some s'.held))
        (λ zones. AreZones zones × IsReply zones (query_bytes id name) way (Some s'.held)) refl (λ zones are is. (are, is)) set replied) whole

    by : (x : Reading) → IsRead id name way s'.held x → HasFewRead x → WhereTold s.zones (λ zones. IsHonest zones name x) → ComesTo 1 id name s s' (Ok x)
    by (reading.Says o) is rules told_of = record {
      recent = recent;
      read = subst (λ w. IsRead id name w s'.held (reading.Says o)) (sym went) is;
      few = rules;
      told = told_of;
    }
    by reading.CutShort is rules told_of = subst (λ w. IsRead id name w s'.held reading.CutShort) (sym went) is
    by (reading.Faulty t) is rules told_of = record {
      rose = omega (arith, one);
      fault = (
        λ e. absurd (no_link_fault id name way s'.held (subst (λ f. IsRead id name way s'.held (reading.Faulty f)) e is)),
        λ not. absurd (not recent),
      );
      blamed = λ e. absurd (no_link_fault id name way s'.held (subst (λ f. IsRead id name way s'.held (reading.Faulty f)) e is));
      read = λ not. subst (λ w. IsRead id name w s'.held (reading.Faulty t)) (sym went) is;
      told =
          both_told s.zones s.zones (λ zones. ⊥) (λ zones. ⊥) (λ zones. (t ≡ trouble.LinkFault) × (min 3 (s.recent + 1) ≤ s'.recent)) refl
          (λ zones none other. absurd none) told_of told_of;
    }

-- a try whose exchange failed
pub tried_err : (id : ℕ) (name : Labels) (s s' : LinkState) → s'.exchanges ≡ one_more s.exchanges → s'.recent ≡ min 3 (s.recent + 1)
    → Rose s.faults s'.faults → ComesTo 1 id name s s' (Ok (reading.Faulty trouble.LinkFault))
tried_err id name s s' one recent rose = record {
  rose = omega (arith, one);
  fault = (λ e f. absurd (omega (arith, recent, f)), λ not. refl);
  blamed = λ e. rose;
  read = λ not. absurd (not refl);
  told = all_told s.zones (λ zones. (trouble.LinkFault ≡ trouble.LinkFault) × (min 3 (s.recent + 1) ≤ s'.recent)) (λ zones. (refl, omega (arith, recent)));
}

-- one exchange, whatever it came to
pub asked_once : (id id' : ℕ) (name : Labels) (s s' : LinkState) (Came : ℕ → Type 0) → id < 2 ^ 16 → IsName name → id' ≡ (id + 1) % 2 ^ 16
    → s'.exchanges ≡ one_more s.exchanges → s'.query ≡ query_bytes id name → s'.zones ≡ s.zones → s.faults ≤ s'.faults → Came id
    → Asks 1 1 name id id' s s' Came
asked_once id id' name s s' Came low named next one query zones faults came =
    let same : id ≡ (id + (1 - 1)) % 2 ^ 16 = omega (arith, low) in
    record {
      named = named;
      count = 1;
      some = omega arith;
      few = omega arith;
      exchanges = omega (arith, one);
      numbers = next;
      query = query ∙ ap (λ n. query_bytes n name) same;
      zones = zones;
      faults = faults;
      calm = all_told s.zones (λ zones. s'.faults ≡ s.faults → s'.faults < 2 ^ 64 - 1 → 1 ≤ 1) (λ zones e l. omega arith);
      came = subst Came same came;
    }

-- more exchanges behind others
abbrev Calm : ℕ → ℕ → LinkState → LinkState → Type 0
Calm count most s s' = s'.faults ≡ s.faults → s'.faults < 2 ^ 64 - 1 → count ≤ most

last_number : (id id' n m : ℕ) → id' ≡ (id + n) % 2 ^ 16 → 0 < m → (id' + (m - 1)) % 2 ^ 16 ≡ (id + (n + m - 1)) % 2 ^ 16
last_number id id' n m is some = omega (arith, is, some)

next_number : (id id' id'' n m : ℕ) → id' ≡ (id + n) % 2 ^ 16 → id'' ≡ (id' + m) % 2 ^ 16 → id'' ≡ (id + (n + m)) % 2 ^ 16
next_number id id' id'' n m is is' = omega (arith, is, is')

-- .. where the first came to trouble by its exchange, if zones are told
comes_more : (n last last' : ℕ) (name : Labels) (s s' s'' : LinkState) (t : Trouble) (r : Result Reading MemoryFault) → s'.zones ≡ s.zones → s.faults ≤ s'.faults
    → HasFailed 1 last name s s' t → ComesTo n last' name s' s'' r → ComesTo (1 + n) last' name s s'' r
comes_more n last last' name s s' s'' t (Ok (reading.Says o)) same later one two = record {
  recent = two.recent;
  read = two.read;
  few = two.few;
  told = subst (λ z. WhereTold z (λ zones. IsOffer (told zones) name o)) same two.told;
}
comes_more n last last' name s s' s'' t (Ok reading.CutShort) same later one two = two
comes_more n last last' name s s' s'' t (Ok (reading.Faulty t')) same later one two = record {
  rose = let a = one.rose in let b = two.rose in omega (arith, a, b);
  fault = two.fault;
  blamed = λ e. let b = two.blamed e in omega (arith, later, b);
  read = two.read;
  told =
      both_told s.zones s'.zones (λ zones. (t ≡ trouble.LinkFault) × (min 3 (s.recent + 1) ≤ s'.recent))
      (λ zones. (t' ≡ trouble.LinkFault) × (min 3 (s'.recent + n) ≤ s''.recent))
      (λ zones. (t' ≡ trouble.LinkFault) × (min 3 (s.recent + (1 + n)) ≤ s''.recent)) same
      (λ zones (e, a) (f, b). (f, omega (arith, a, b))) one.told two.told;
}
comes_more n last last' name s s' s'' t (Err memory) same later one two = tt

pub again : (n : ℕ) (name : Labels) (id id' id'' : ℕ) (s s' s'' : LinkState) (t : Trouble) (r : Result Reading MemoryFault)
    → Asks 1 1 name id id' s s' (λ last. ComesTo 1 last name s s' (Ok (reading.Faulty t)))
    → Asks n 1 name id' id'' s' s'' (λ last. ComesTo n last name s' s'' r)
    → Asks (1 + n) 1 name id id'' s s'' (λ last. ComesTo (1 + n) last name s s'' r)
again n name id id' id'' s s' s'' t r one two =
    let same = last_number id id' one.count two.count one.numbers two.some in
    let came = comes_more n ((id + (one.count - 1)) % 2 ^ 16) ((id' + (two.count - 1)) % 2 ^ 16) name s s' s'' t r one.zones one.faults one.came two.came in
    record {
      named = one.named;
      count = one.count + two.count;
      some = let a = one.some in omega (arith, a);
      few = let a = one.few in let b = two.few in omega (arith, a, b);
      exchanges = let a = one.exchanges in let b = two.exchanges in omega (arith, a, b);
      numbers = next_number id id' id'' one.count two.count one.numbers two.numbers;
      query = two.query ∙ ap (λ k. query_bytes k name) same;
      zones = two.zones ∙ one.zones;
      faults = let a = one.faults in let b = two.faults in omega (arith, a, b);
      calm =
          both_told s.zones s.zones (λ zones. (t ≡ trouble.LinkFault) × (min 3 (s.recent + 1) ≤ s'.recent)) (λ zones. Calm one.count 1 s s')
          (λ zones. Calm (one.count + two.count) 1 s s'') refl
          (λ zones (e, a) calm same_faults low.
          let rose = one.came.blamed e in
          let later = two.faults in
          absurd (omega (arith, rose, later, same_faults, low))) one.came.told one.calm;
      came = subst (λ k. ComesTo (1 + n) k name s s'' r) same came;
    }

-- a try that was enough
comes_enough : (n last : ℕ) (name : Labels) (s s' : LinkState) (r : Result Reading MemoryFault) → ((t : Trouble) → r ≢ Ok (reading.Faulty t))
    → ComesTo 1 last name s s' r → ComesTo n last name s s' r
comes_enough n last name s s' (Ok (reading.Says o)) not came = came
comes_enough n last name s s' (Ok reading.CutShort) not came = came
comes_enough n last name s s' (Ok (reading.Faulty t)) not came = absurd (not t refl)
comes_enough n last name s s' (Err memory) not came = tt

pub enough : (n : ℕ) (name : Labels) (id id' : ℕ) (s s' : LinkState) (r : Result Reading MemoryFault) → 1 ≤ n → ((t : Trouble) → r ≢ Ok (reading.Faulty t))
    → Asks 1 1 name id id' s s' (λ last. ComesTo 1 last name s s' r) → Asks n 1 name id id' s s' (λ last. ComesTo n last name s s' r)
enough n name id id' s s' r least not one = record {
  named = one.named;
  count = one.count;
  some = one.some;
  few = let a = one.few in omega (arith, a, least);
  exchanges = one.exchanges;
  numbers = one.numbers;
  query = one.query;
  zones = one.zones;
  faults = one.faults;
  calm = one.calm;
  came = comes_enough n ((id + (one.count - 1)) % 2 ^ 16) name s s' r not one.came;
}

-- the tries of one way were all
ends : (last : ℕ) (name : Labels) (s s' : LinkState) (r : Result Reading MemoryFault) → r ≢ Ok reading.CutShort → ComesTo 3 last name s s' r
    → Ends last name s s' (end_of r)
ends last name s s' (Ok (reading.Says o)) not came = came
ends last name s s' (Ok reading.CutShort) not came = absurd (not refl)
ends last name s s' (Ok (reading.Faulty t)) not came = came
ends last name s s' (Err memory) not came = tt

pub settled : (name : Labels) (id id' : ℕ) (s s' : LinkState) (r : Result Reading MemoryFault) → r ≢ Ok reading.CutShort
    → Asks 3 1 name id id' s s' (λ last. ComesTo 3 last name s s' r) → Asks 6 2 name id id' s s' (λ last. Ends last name s s' (end_of r))
settled name id id' s s' r not one = record {
  named = one.named;
  count = one.count;
  some = one.some;
  few = let a = one.few in omega (arith, a);
  exchanges = one.exchanges;
  numbers = one.numbers;
  query = one.query;
  zones = one.zones;
  faults = one.faults;
  calm = both_told s.zones s.zones (λ zones. Calm one.count 1 s s') (λ zones. Calm one.count 1 s s') (λ zones. Calm one.count 2 s s') refl
      (λ zones c d e l. let m = c e l in omega (arith, m)) one.calm one.calm;
  came = ends ((id + (one.count - 1)) % 2 ^ 16) name s s' r not one.came;
}

-- .. or those of a stream followed
ends_later : (last : ℕ) (name : Labels) (s s' s'' : LinkState) (r : Result Reading MemoryFault) → s'.zones ≡ s.zones → s.faults ≤ s'.faults
    → many_more s.exchanges 1 ≤ s'.exchanges → s''.way ≡ Stream → ComesTo 3 last name s' s'' r → Ends last name s s'' (end_of r)
ends_later last name s s' s'' (Ok (reading.Says o)) same later rose stream came = record {
  recent = came.recent;
  read = came.read;
  few = came.few;
  told = subst (λ z. WhereTold z (λ zones. IsOffer (told zones) name o)) same came.told;
}
ends_later last name s s' s'' (Ok reading.CutShort) same later rose stream came = absurd (no_short_stream last name s''.way s''.held stream came)
ends_later last name s s' s'' (Ok (reading.Faulty t)) same later rose stream came = record {
  rose = let a = came.rose in omega (arith, a, rose);
  fault = came.fault;
  blamed = λ e. let b = came.blamed e in omega (arith, later, b);
  read = came.read;
  told = subst (λ z. WhereTold z (λ zones. (t ≡ trouble.LinkFault) × (min 3 (s.recent + 3) ≤ s''.recent))) same
      (both_told s'.zones s'.zones (λ zones. (t ≡ trouble.LinkFault) × (min 3 (s'.recent + 3) ≤ s''.recent))
      (λ zones. (t ≡ trouble.LinkFault) × (min 3 (s'.recent + 3) ≤ s''.recent))
      (λ zones. (t ≡ trouble.LinkFault) × (min 3 (s.recent + 3) ≤ s''.recent)) refl (λ zones (e, a) b. (e, omega (arith, a))) came.told came.told);
}
ends_later last name s s' s'' (Err memory) same later rose stream came = tt

pub both_ways : (name : Labels) (id id' id'' : ℕ) (s s' s'' : LinkState) (r : Result Reading MemoryFault)
    → Asks 3 1 name id id' s s' (λ last. ComesTo 3 last name s s' (Ok reading.CutShort)) → s''.way ≡ Stream
    → Asks 3 1 name id' id'' s' s'' (λ last. ComesTo 3 last name s' s'' r) → Asks 6 2 name id id'' s s'' (λ last. Ends last name s s'' (end_of r))
both_ways name id id' id'' s s' s'' r one stream two =
    let same = last_number id id' one.count two.count one.numbers two.some in
    let rose : many_more s.exchanges 1 ≤ s'.exchanges = let a = one.exchanges in let b = one.some in omega (arith, a, b) in
    let came = ends_later ((id' + (two.count - 1)) % 2 ^ 16) name s s' s'' r one.zones one.faults rose stream two.came in
    record {
      named = one.named;
      count = one.count + two.count;
      some = let a = one.some in omega (arith, a);
      few = let a = one.few in let b = two.few in omega (arith, a, b);
      exchanges = let a = one.exchanges in let b = two.exchanges in omega (arith, a, b);
      numbers = next_number id id' id'' one.count two.count one.numbers two.numbers;
      query = two.query ∙ ap (λ k. query_bytes k name) same;
      zones = two.zones ∙ one.zones;
      faults = let a = one.faults in let b = two.faults in omega (arith, a, b);
      calm =
          both_told s.zones s'.zones (λ zones. Calm one.count 1 s s') (λ zones. Calm two.count 1 s' s'')
          (λ zones. Calm (one.count + two.count) 2 s s'') one.zones
          (λ zones c d e l.
          let a = one.faults in
          let b = two.faults in
          let m = c (omega (arith, a, b, e)) (omega (arith, a, b, e, l)) in
          let k = d (omega (arith, a, b, e)) l in
          omega (arith, m, k)) one.calm two.calm;
      came = subst (λ k. Ends k name s s'' (end_of r)) same came;
    }

-- what a source keeps after one more ask
kept_trouble : (before : Counts) (s s' : LinkState) (name : Labels) (id id' asks : ℕ) (last : Option Trouble) (r : Result Offer NoOffer) → Keeps before s asks last
    → Asks 6 2 name id id' s s' (λ number. Ends number name s s' r) → (t : Trouble) → trouble_of r ≡ Some t → WasTrouble before s' t
kept_trouble before s s' name id id' asks last (Ok o) keeps one t is = absurd cc
kept_trouble before s s' name id id' asks last (Err no_offer.Memory) keeps one t is = absurd cc
kept_trouble before s s' name id id' asks last (Err (no_offer.Failed u)) keeps one t is =
    subst (WasTrouble before s') (some_is u t is) (record {
      id = (id + (one.count - 1)) % 2 ^ 16;
      name = name;
      number = omega arith;
      named = one.named;
      query = one.query;
      rose = let a = keeps.rose in let b = one.came.rose in omega (arith, a, b);
      fault = one.came.fault;
      blamed = λ e. let a = keeps.faults in let b = one.came.blamed e in omega (arith, a, b);
      read = one.came.read;
      told = subst (λ z. WhereTold z (λ zones. (u ≡ trouble.LinkFault) × (3 ≤ s'.recent))) (sym one.zones)
          (both_told s.zones s.zones (λ zones. (u ≡ trouble.LinkFault) × (min 3 (s.recent + 3) ≤ s'.recent))
          (λ zones. (u ≡ trouble.LinkFault) × (min 3 (s.recent + 3) ≤ s'.recent)) (λ zones. (u ≡ trouble.LinkFault) × (3 ≤ s'.recent)) refl
          (λ zones (e, a) b. (e, omega (arith, a))) one.came.told one.came.told);
    })

keeps_more : (before : Counts) (s s' : LinkState) (name : Labels) (id id' asks : ℕ) (last : Option Trouble) (r : Result Offer NoOffer) → Keeps before s asks last
    → Asks 6 2 name id id' s s' (λ number. Ends number name s s' r) → Keeps before s' (one_more asks) (trouble_of r)
keeps_more before s s' name id id' asks last r keeps one = record {
  rose = let a = keeps.rose in let b = one.exchanges in let c = one.some in omega (arith, a, b, c);
  faults = let a = keeps.faults in let b = one.faults in omega (arith, a, b);
  calm =
      subst (λ z. WhereTold z (λ zones. s'.faults ≡ before.faults → s'.faults < 2 ^ 64 - 1 → s'.exchanges ≤ before.exchanges + 2 * one_more asks)) (sym one.zones)
      (both_told s.zones s.zones
      (λ zones. s.faults ≡ before.faults → s.faults < 2 ^ 64 - 1 → s.exchanges ≤ before.exchanges + 2 * asks) (λ zones. Calm one.count 2 s s')
      (λ zones. s'.faults ≡ before.faults → s'.faults < 2 ^ 64 - 1 → s'.exchanges ≤ before.exchanges + 2 * one_more asks) refl
      (λ zones c d e l.
      let a = keeps.faults in
      let b = one.faults in
      let x = one.exchanges in
      let m = c (omega (arith, a, b, e)) (omega (arith, a, b, e, l)) in
      let k = d (omega (arith, a, b, e)) l in
      omega (arith, x, m, k)) keeps.calm one.calm);
  trouble = kept_trouble before s s' name id id' asks last r keeps one;
}

pub keeps_next : (before : Counts) (s s' : LinkState) (name : Labels) (id id' asks : ℕ) (last : Option Trouble) (r : Result Offer NoOffer)
    → ∥ Keeps before s asks last ∥₁ → Asks 6 2 name id id' s s' (λ number. Ends number name s s' r)
    → ∥ Keeps before s' (one_more asks) (trouble_of r) ∥₁
keeps_next before s s' name id id' asks last r keeps one = ∥∥₁_map keeps (λ k. keeps_more before s s' name id id' asks last r k one)

-- what a source answers
told_offer : (zones : Option (List Zone)) (name : Labels) (o : Offer) → WhereTold zones (λ zones. IsOffer (told zones) name o)
    → WhereTold (option_map told zones) (λ zones. IsOffer zones name o)
told_offer None name o is = tt
told_offer (Some zones) name o is = is

pub offers : (last : ℕ) (name : Labels) (s s' : LinkState) (r : Result Offer NoOffer) → Ends last name s s' r
    → IfOk (answer_of r) (λ o. WhereTold (option_map told s.zones) (λ zones. IsOffer zones name o))
offers last name s s' (Ok o) came = told_offer s.zones name o came.told
offers last name s s' (Err (no_offer.Failed t)) came = tt
offers last name s s' (Err no_offer.Memory) came = tt

pub few_rules : (last : ℕ) (name : Labels) (s s' : LinkState) (r : Result Offer NoOffer) → Ends last name s s' r → IfOk (answer_of r) HasFewRules
few_rules last name s s' (Ok o) came = came.few
few_rules last name s s' (Err (no_offer.Failed t)) came = tt
few_rules last name s s' (Err no_offer.Memory) came = tt

pub source_trouble : (old new : RuleSourceState) (r : Result Offer NoOffer) → new.troubles ≡ troubles_with old.troubles (trouble_of r)
    → new.failed ≡ is_some (trouble_of r) → old.troubles ≤ 2 ^ 64 - 1 → HasTrouble old new (answer_of r)
source_trouble old new (Ok o) is failed low = record { later = omega (arith, is); rose = λ e. absurd cc; failed = λ e. absurd cc }
source_trouble old new (Err (no_offer.Failed t)) is failed low = record { later = omega (arith, is, low); rose = λ e. omega (arith, is); failed = λ e. failed }
source_trouble old new (Err no_offer.Memory) is failed low = record { later = omega (arith, is); rose = λ e. absurd cc; failed = λ e. absurd cc }

pub keeps_none : (name : Labels) (r : Result Offer NoOffer) → KeepsNames 0 name [] [] (answer_of r)
keeps_none name (Ok o) = (name ∷ [], inr (Contains-none name, refl), refl)
keeps_none name (Err (no_offer.Failed t)) = inl refl
keeps_none name (Err no_offer.Memory) = inl refl

answers : (last : ℕ) (name : Labels) (s s' : LinkState) (r : Result Offer NoOffer) → Ends last name s s' r
    → Answers last name s s' (trouble_of r) (answer_of r)
answers last name s s' (Ok o) came = (refl, came)
answers last name s s' (Err (no_offer.Failed t)) came = (t, refl, came)
answers last name s s' (Err no_offer.Memory) came = refl

pub answered : (name : Labels) (id id' : ℕ) (s s' : LinkState) (r : Result Offer NoOffer) (t : Option Trouble) (a : Result Offer SourceFault)
    → t ≡ trouble_of r → a ≡ answer_of r → Asks 6 2 name id id' s s' (λ last. Ends last name s s' r)
    → Asks 6 2 name id id' s s' (λ last. Answers last name s s' t a)
answered name id id' s s' r t a is_t is_a one = record {
  named = one.named;
  count = one.count;
  some = one.some;
  few = one.few;
  exchanges = one.exchanges;
  numbers = one.numbers;
  query = one.query;
  zones = one.zones;
  faults = one.faults;
  calm = one.calm;
  came =
      subst (λ (u : Option Trouble). Answers ((id + (one.count - 1)) % 2 ^ 16) name s s' u a) (sym is_t)
      (subst (λ (b : Result Offer SourceFault). Answers ((id + (one.count - 1)) % 2 ^ 16) name s s' (trouble_of r) b) (sym is_a)
      (answers ((id + (one.count - 1)) % 2 ^ 16) name s s' r one.came));
}

-- exchanges behind others are at least two
pub at_least_two : (a b c d : ℕ) (name : Labels) (id id' id'' : ℕ) (s s' s'' : LinkState) (P Q : ℕ → Type 0) → Asks a b name id id' s s' P
    → Asks c d name id' id'' s' s'' Q → many_more s.exchanges 2 ≤ s''.exchanges
at_least_two a b c d name id id' id'' s s' s'' P Q one two =
    let x = one.exchanges in
    let y = two.exchanges in
    let m = one.some in
    let n = two.some in
    omega (arith, x, y, m, n)
