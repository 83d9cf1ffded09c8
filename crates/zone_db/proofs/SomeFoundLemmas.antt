-- Zones show an answer for every name and kind.
use Rattle.std.proofs.Common.{◌≡◌, inl, inr, ℕ, ◌<◌, ◌≤◌, List, [], ◌∷◌, length, Option, Some, None, Bor, refl, sym, subst, arith}
use Rattle.std.specs.Prelude.{Contains}
use Rattle.dns_name.specs.Name.{AreSame, IsBelow}
use Rattle.naptr_data.specs.Zones.{Labels, Exists, IsSource, star}
use Rattle.naptr_data.proofs.CutLemmas.{Contains-head, Contains-after, Contains-none, head_or_after}
use Rattle.naptr_data.proofs.BelowLemmas.{below_itself, below_longer, below_trans}
use Rattle.naptr_data.proofs.DecideLemmas.{Either, numbers, same_or_not, below_or_not, exists_or_not, has_encloser}
use Rattle.dns_wire.specs.Kinds.{ns, cname}
use Rattle.dns_wire.specs.declared.record.Record.{Record}
use Rattle.zone_build.specs.Zone.{Zone, IsIn, IsValid}
use Rattle.zone_build.specs.Plain.{plain_of}
use Rattle.zone_build.proofs.ListLemmas.{AllByRecursion-contains}
use Rattle.zone_build.proofs.SomeZoneLemmas.{some_or_none}
use Rattle.zone_build.proofs.SomeSetLemmas.{in_or_not, has_set, has_soa}
use Rattle.zone_db.specs.Sets.{AreApart, AreZones}
use Rattle.zone_db.specs.LookUp.{Decides, IsDeciding, IsServed, HasKind, AsksFor, MeetsAlias, IsFound, every}
use Rattle.zone_db.specs.Seeking.{CutsOff, IsHighest, IsLeastKind}
use Rattle.zone_db.specs.declared.found.Found.{Found}
use Rattle.zone_db.specs.declared.found.Found.TheVariants as found
use Rattle.zone_db.proofs.FoundLemmas.{shorter, longer_or_not}
use Rattle.zone_db.proofs.SeekLemmas.{highest_is, uncut_is, is_answered, is_unanswered}

-- a zone decides, or none does
abbrev HasDeciding : List Zone → Labels → Type 0
HasDeciding zones name = (o : Option Zone) × IsDeciding zones name o

has_deciding : (zones : List Zone) (name : Labels) → AreApart zones → HasDeciding zones name
has_deciding [] name apart = (None, λ zone c b. Contains-none zone c)
has_deciding (zone ∷ zones) name apart = next (below_or_not name zone.apex) (has_deciding zones name apart.1)
  where
    kept : (best : Zone) → Decides zones name best → (IsBelow name zone.apex → length zone.apex < length best.apex) → HasDeciding (zone ∷ zones) name
    kept best d less = (
      Some best,
      record {
        among = Contains-after zone zones best d.among;
        above = d.above;
        longest = λ other c b. elim (head_or_after zone zones other c) [
          | inl here ↦ inr
              (subst (λ (z : Zone). length z.apex < length best.apex) (sym here) (less (subst (λ (z : Zone). IsBelow name z.apex) here b)))
          | inr after ↦ d.longest other after b
        ];
      },
    )

    longer : IsBelow name zone.apex → (best : Zone) → Decides zones name best → length best.apex ≤ length zone.apex
        → HasDeciding (zone ∷ zones) name
    longer b best d most =
        let apex : ¬ AreSame best.apex zone.apex =
        AllByRecursion-contains (λ (other : Zone). ¬ AreSame other.apex zone.apex) zones best apart.0 d.among in
        let less : length best.apex < length zone.apex =
        shorter zone.apex best.apex (λ same. apex (sym same)) (below_longer name zone.apex best.apex b d.above most) in (
          Some zone,
          record {
            among = Contains-head zone zones;
            above = b;
            longest = λ other c h. elim (head_or_after zone zones other c) [
              | inl here ↦ inl here
              | inr after ↦ elim (d.longest other after h) [
                | inl same ↦ inr (subst (λ (z : Zone). length z.apex < length zone.apex) (sym same) less)
                | inr fewer ↦ inr (omega (arith, fewer, less))
              ]
            ];
          },
        )

    next : Either (IsBelow name zone.apex) → HasDeciding zones name → HasDeciding (zone ∷ zones) name
    next (inr not) (None, none) = (
      None,
      λ other c b. elim (head_or_after zone zones other c) [
        | inl here ↦ not (subst (λ (z : Zone). IsBelow name z.apex) here b)
        | inr after ↦ none other after b
      ],
    )
    next (inr not) (Some best, d) = kept best d (λ b. absurd (not b))
    next (inl b) (None, none) = (
      Some zone,
      record {
        among = Contains-head zone zones;
        above = b;
        longest = λ other c h. elim (head_or_after zone zones other c) [
          | inl here ↦ inl here
          | inr after ↦ absurd (none other after h)
        ];
      },
    )
    next (inl b) (Some best, d) = elim (longer_or_not (length zone.apex) (length best.apex)) [
      | inl less ↦ kept best d (λ h. less)
      | inr most ↦ longer b best d most
    ]

-- a cut is the highest, or there is none
cuts_or_not : (apex name : Labels) (one : Record) → Either (CutsOff apex name one)
cuts_or_not apex name one = all (numbers one.kind ns) (same_or_not one.owner apex) (below_or_not name one.owner)
  where
    all : Either (one.kind ≡ ns) → Either (AreSame one.owner apex) → Either (IsBelow name one.owner) → Either (CutsOff apex name one)
    all (inr not) b c = inr (λ h. not h.0)
    all (inl kind) (inl same) c = inr (λ h. h.1 same)
    all (inl kind) (inr lower) (inl below) = inl (kind, lower, below)
    all (inl kind) (inr lower) (inr not) = inr (λ h. not h.2)

abbrev HasHighest : List Record → Labels → Labels → Type 0
HasHighest records apex name = (o : Option Record) × IsHighest records apex name o

has_highest : (records : List Record) (apex name : Labels) → HasHighest records apex name
has_highest [] apex name = (None, λ one c h. Contains-none one c)
has_highest (x ∷ xs) apex name = next (cuts_or_not apex name x) (has_highest xs apex name)
  where
    kept : (cut : Record) → IsHighest xs apex name (Some cut) → (CutsOff apex name x → IsBelow x.owner cut.owner) → HasHighest (x ∷ xs) apex name
    kept cut h first = (
      Some cut,
      (
        Contains-after x xs cut h.0,
        h.1,
        λ one c k. elim (head_or_after x xs one c) [
          | inl here ↦ subst (λ (r : Record). IsBelow r.owner cut.owner) (sym here) (first (subst (CutsOff apex name) here k))
          | inr after ↦ h.2 one after k
        ],
      ),
    )

    higher : CutsOff apex name x → ((one : Record) → Contains xs one → CutsOff apex name one → IsBelow one.owner x.owner) → HasHighest (x ∷ xs) apex name
    higher here rest = (
      Some x,
      (
        Contains-head x xs,
        here,
        λ one c k. elim (head_or_after x xs one c) [
          | inl same ↦ subst (λ (r : Record). IsBelow r.owner x.owner) (sym same) (below_itself x.owner)
          | inr after ↦ rest one after k
        ],
      ),
    )

    next : Either (CutsOff apex name x) → HasHighest xs apex name → HasHighest (x ∷ xs) apex name
    next (inr not) (None, none) = (
      None,
      λ one c k. elim (head_or_after x xs one c) [
        | inl here ↦ not (subst (CutsOff apex name) here k)
        | inr after ↦ none one after k
      ],
    )
    next (inr not) (Some cut, h) = kept cut h (λ k. absurd (not k))
    next (inl here) (None, none) = higher here (λ one c k. absurd (none one c k))
    next (inl here) (Some cut, h) = elim (longer_or_not (length cut.owner) (length x.owner)) [
      | inl less ↦ kept cut h (λ k. below_longer name x.owner cut.owner here.2 h.1.2 (omega (arith, less)))
      | inr most ↦ higher here
          (λ one c k. below_trans one.owner cut.owner x.owner (h.2 one c k)
          (below_longer name cut.owner x.owner h.1.2 here.2 most))
    ]

-- a kind is the least that answers, or none does
asks_or_not : (asked kind : ℕ) → Either (AsksFor asked kind)
asks_or_not asked kind = both (numbers asked kind) (numbers asked every)
  where
    both : Either (asked ≡ kind) → Either (asked ≡ every) → Either (AsksFor asked kind)
    both (inl same) h = inl (inl same)
    both (inr not) (inl all) = inl (inr all)
    both (inr not) (inr not') = inr (λ a. elim a [ inl same ↦ not same | inr all ↦ not' all ])

abbrev AnswersAt : Labels → ℕ → Record → Type 0
AnswersAt source asked one = AreSame one.owner source × AsksFor asked one.kind

answers_or_not : (source : Labels) (asked : ℕ) (one : Record) → Either (AnswersAt source asked one)
answers_or_not source asked one = both (same_or_not one.owner source) (asks_or_not asked one.kind)
  where
    both : Either (AreSame one.owner source) → Either (AsksFor asked one.kind) → Either (AnswersAt source asked one)
    both (inl same) (inl asks) = inl (same, asks)
    both (inl same) (inr not) = inr (λ h. not h.1)
    both (inr not) h = inr (λ h. not h.0)

abbrev HasLeast : List Record → Labels → ℕ → Type 0
HasLeast records source asked = (o : Option ℕ) × IsLeastKind records source asked o

has_least : (records : List Record) (source : Labels) (asked : ℕ) → HasLeast records source asked
has_least [] source asked = (None, λ one c same. absurd (Contains-none one c))
has_least (x ∷ xs) source asked = next (answers_or_not source asked x) (has_least xs source asked)
  where
    kept : (kind : ℕ) → IsLeastKind xs source asked (Some kind) → (AnswersAt source asked x → kind ≤ x.kind) → HasLeast (x ∷ xs) source asked
    kept kind h first = (
      Some kind,
      (
        (h.0.0, Contains-after x xs h.0.0 h.0.1, h.0.2, h.0.3, h.0.4),
        λ one c same asks. elim (head_or_after x xs one c) [
          | inl here ↦ subst (λ (r : Record). kind ≤ r.kind) (sym here) (first (subst (AnswersAt source asked) here (same, asks)))
          | inr after ↦ h.1 one after same asks
        ],
      ),
    )

    less : AnswersAt source asked x
        → ((one : Record) → Contains xs one → AreSame one.owner source → AsksFor asked one.kind → x.kind ≤ one.kind)
        → HasLeast (x ∷ xs) source asked
    less here rest = (
      Some x.kind,
      (
        (x, Contains-head x xs, here.0, refl, here.1),
        λ one c same asks. elim (head_or_after x xs one c) [
          | inl is ↦ subst (λ (r : Record). x.kind ≤ r.kind) (sym is) (omega arith)
          | inr after ↦ rest one after same asks
        ],
      ),
    )

    next : Either (AnswersAt source asked x) → HasLeast xs source asked → HasLeast (x ∷ xs) source asked
    next (inr not) (None, none) = (
      None,
      λ one c same asks. elim (head_or_after x xs one c) [
        | inl here ↦ not (subst (AnswersAt source asked) here (same, asks))
        | inr after ↦ none one after same asks
      ],
    )
    next (inr not) (Some kind, h) = kept kind h (λ a. absurd (not a))
    next (inl here) (None, none) = less here (λ one c same asks. absurd (none one c same asks))
    next (inl here) (Some kind, h) = elim (longer_or_not kind x.kind) [
      | inl lower ↦ kept kind h (λ a. omega (arith, lower))
      | inr most ↦ less here (λ one c same asks. let l = h.1 one c same asks in omega (arith, l, most))
    ]

-- a name of a zone has a source
has_source : (zone : Zone) (name : Labels) → IsBelow name zone.apex → (source : Labels) × IsSource (plain_of zone) name source
has_source zone name inside = next (exists_or_not (plain_of zone) name)
  where
    next : Either (Exists (plain_of zone) name) → (source : Labels) × IsSource (plain_of zone) name source
    next (inl exists) = (name, inl (exists, refl))
    next (inr not) = let e = has_encloser (plain_of zone) name inside not in (star ∷ e.0, inr (not, (e.0, e.1, refl)))

-- what is lent
abbrev lent : {X : Type 0} → X → Bor X
lent x = record { ref_ptr = (0, 0); now = x }

abbrev Shows : List Zone → Labels → ℕ → Type 0
Shows zones name asked = (f : Found) × IsFound zones name asked f

meets_or_not : (zone : Zone) (source : Labels) (asked : ℕ) → Either (MeetsAlias zone source asked)
meets_or_not zone source asked = both (some_or_none (IsIn source cname) (in_or_not source cname) zone.records) (asks_or_not asked cname)
  where
    both : Either (HasKind zone source cname) → Either (AsksFor asked cname) → Either (MeetsAlias zone source asked)
    both (inl here) (inl asks) = inr (λ m. m.1 asks)
    both (inl here) (inr not) = inl (here, not)
    both (inr not) h = inr (λ m. not m.0)

shows_at : (zones : List Zone) (name : Labels) (asked : ℕ) (zone : Zone) (source : Labels) → IsServed zones name zone source
    → IsValid zone → Exists (plain_of zone) source → Shows zones name asked
shows_at zones name asked zone source served valid exists = next (meets_or_not zone source asked) (has_least zone.records source asked)
  where
    next : Either (MeetsAlias zone source asked) → HasLeast zone.records source asked → Shows zones name asked
    next (inl meets) h = let s = has_set zone.records source cname valid.order in (found.Alias (lent s.0), (zone, source, served, meets, s.1))
    next (inr not) (Some kind, h) =
        let s = has_set zone.records source kind valid.order in
        (found.Set (lent s.0), (zone, source, kind, served, not, is_answered zone source asked kind h, s.1))
    next (inr not) (None, none) =
        let one = has_soa zone.records valid.order in
        (found.NoSet (lent one.0), (zone, source, served, exists, not, is_unanswered zone source asked none, (one.1, one.2)))

shows_in : (zones : List Zone) (name : Labels) (asked : ℕ) (zone : Zone) → Decides zones name zone → IsValid zone → Shows zones name asked
shows_in zones name asked zone d valid = next (has_highest zone.records zone.apex name) (has_source zone name d.above)
  where
    served : (source : Labels) → IsHighest zone.records zone.apex name None → IsSource (plain_of zone) name source → IsServed zones name zone source
    served source none stands = record { decides = d; uncut = uncut_is zone name none; stands_for = stands }

    next : HasHighest zone.records zone.apex name → (source : Labels) × IsSource (plain_of zone) name source → Shows zones name asked
    next (Some cut, h) s =
        let set = has_set zone.records cut.owner ns valid.order in
        (found.Cut (lent set.0), (zone, cut.owner, d, highest_is zone name cut h, set.1))
    next (None, none) (source, stands) = elim (exists_or_not (plain_of zone) source) [
      | inl exists ↦ shows_at zones name asked zone source (served source none stands) valid exists
      | inr not ↦ let one = has_soa zone.records valid.order in (found.NoName (lent one.0), (zone, source, served source none stands, not, (one.1, one.2)))
    ]

pub some_found : (zones : List Zone) (name : Labels) (asked : ℕ) → AreZones zones → (f : Found) × IsFound zones name asked f
some_found zones name asked are = next (has_deciding zones name are.apart)
  where
    next : HasDeciding zones name → Shows zones name asked
    next (None, none) = (found.Outside, none)
    next (Some zone, d) = shows_in zones name asked zone d (AllByRecursion-contains IsValid zones zone are.each d.among)
