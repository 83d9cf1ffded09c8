-- What is found in zones, as it is read in the reply that says it.
use Rattle.std.proofs.Common.{◌≡◌, ◌⊎◌, inl, inr, ℕ, zero, suc, ◌%◌, List, [], ◌∷◌, ◌++◌, refl, sym, ap, subst, ◌∙◌, arith}
use Rattle.std.specs.Prelude.{Contains, IsTrue}
use Rattle.std.proofs.lemmas.List.Elements.{Contains-append_left, Contains-append_right, Contains-append_cases}
use Rattle.dns_name.specs.Name.{folded_labels}
use Rattle.naptr_rule.specs.declared.rule.Naptr.{Naptr}
use Rattle.naptr_data.specs.Zones.{Labels}
use Rattle.naptr_data.specs.declared.offer.Offer.{Offer}
use Rattle.naptr_data.specs.declared.offer.Offer.TheVariants as offer
use Rattle.naptr_data.proofs.CutLemmas.{Contains-head, Contains-after, Contains-middle, Contains-none, head_or_after}
use Rattle.dns_wire.specs.Kinds.{kind_of, is_whole, ns, soa, naptr}
use Rattle.dns_wire.specs.declared.content.Content.{Content}
use Rattle.dns_wire.specs.declared.content.Content.TheVariants as content
use Rattle.dns_wire.specs.declared.record.Record.{Record}
use Rattle.zone_build.specs.Zone.{Zone, IsIn, IsSet, IsValid}
use Rattle.zone_build.proofs.ListLemmas.{AllByRecursion-contains}
use Rattle.zone_build.proofs.RdataLemmas.{kind_is}
use Rattle.zone_db.specs.LookUp.{AreRulesOf, AsksFor, HasKind, IsFound, ReadsAs, Shown, shown}
use Rattle.zone_db.specs.LookUp.Shown.{outside, cut_of, alias_of, set_of, no_set, no_name}
use Rattle.zone_db.specs.Replies.{Adds, Follows, IsNegative, owned_by}
use Rattle.zone_db.specs.Sets.{AreZones}
use Rattle.zone_db.specs.declared.draft.Added.{Added}
use Rattle.zone_db.specs.declared.found.Found.{Found}
use Rattle.zone_db.specs.declared.found.Found.TheVariants as found
use Rattle.wire_source.specs.Readings.{AreRulesAt, HasNoAlias, IsAlias, IsFirstAlias, IsReferral, Says, SayRecords, refused}

ns_content : (c : Content) → kind_of c ≡ ns → IsTrue (is_whole c) → (server : Labels) × (c ≡ content.Ns server)
ns_content (content.A address) e w = absurd (omega (arith, e))
ns_content (content.Ns server) e w = (server, refl)
ns_content (content.Cname target) e w = absurd (omega (arith, e))
ns_content (content.Soa the_soa) e w = absurd (omega (arith, e))
ns_content (content.Ptr name) e w = absurd (omega (arith, e))
ns_content (content.Mx preference exchange) e w = absurd (omega (arith, e))
ns_content (content.Txt texts) e w = absurd (omega (arith, e))
ns_content (content.Aaaa address) e w = absurd (omega (arith, e))
ns_content (content.Srv priority weight port target) e w = absurd (omega (arith, e))
ns_content (content.Naptr r) e w = absurd (omega (arith, e))
ns_content (content.Opt options) e w = absurd (cc)
ns_content (content.Raw bytes) e w = absurd (cc)

rule_content : (c : Content) → kind_of c ≡ naptr → IsTrue (is_whole c) → (rule : Naptr) × (c ≡ content.Naptr rule)
rule_content (content.A address) e w = absurd (omega (arith, e))
rule_content (content.Ns server) e w = absurd (omega (arith, e))
rule_content (content.Cname target) e w = absurd (omega (arith, e))
rule_content (content.Soa the_soa) e w = absurd (omega (arith, e))
rule_content (content.Ptr name) e w = absurd (omega (arith, e))
rule_content (content.Mx preference exchange) e w = absurd (omega (arith, e))
rule_content (content.Txt texts) e w = absurd (omega (arith, e))
rule_content (content.Aaaa address) e w = absurd (omega (arith, e))
rule_content (content.Srv priority weight port target) e w = absurd (omega (arith, e))
rule_content (content.Naptr r) e w = (r, refl)
rule_content (content.Opt options) e w = absurd (cc)
rule_content (content.Raw bytes) e w = absurd (cc)

one_target : (one other : Labels) → content.Cname one ≡ content.Cname other → one ≡ other
one_target one other is = cc

one_rule : (one other : Naptr) → content.Naptr one ≡ content.Naptr other → one ≡ other
one_rule one other is = cc

valid_of : (zones : List Zone) (zone : Zone) → AreZones zones → Contains zones zone → IsValid zone
valid_of zones zone are c = AllByRecursion-contains IsValid zones zone are.each c

-- a record of a valid zone has the kind of its content
kind_of_record : (zone : Zone) (one : Record) → IsValid zone → Contains zone.records one → one.kind ≡ kind_of one.content
kind_of_record zone one valid c = kind_is one.content one.kind one.class one.belongs (valid.plain one c).whole

-- the records of a set are those of that owner and kind
in_set : (records : List Record) (owner : Labels) (kind : ℕ) (set : List Record) (one : Record) → IsSet records owner kind set
    → Contains set one → Contains records one
in_set records owner kind set one is c =
    subst (λ l. Contains l one) (sym is.parts)
    (Contains-append_right is.before (set ++ is.after) one (Contains-append_left set is.after one c))

set_has : (records : List Record) (owner : Labels) (kind : ℕ) (set : List Record) (one : Record) → IsSet records owner kind set
    → Contains records one → IsIn owner kind one → Contains set one
set_has records owner kind set one is c here =
    elim (Contains-append_cases is.before (set ++ is.after) one (subst (λ l. Contains l one) is.parts c)) [
      | inl before ↦ absurd (AllByRecursion-contains (λ (x : Record). ¬ IsIn owner kind x) is.before one is.none_before before here)
      | inr rest ↦ elim (Contains-append_cases set is.after one rest) [
        | inl there ↦ there
        | inr after ↦ absurd (AllByRecursion-contains (λ (x : Record). ¬ IsIn owner kind x) is.after one is.none_after after here)
      ]
    ]

-- the servers of a cut are a referral
cut_refers : (zone : Zone) (owner : Labels) (set : List Record) → IsValid zone → IsSet zone.records owner ns set → HasKind zone owner ns → IsReferral set
cut_refers zone owner set valid is (one, c, here) =
    let server = ns_content one.content (sym (kind_of_record zone one valid c) ∙ here.1) (valid.plain one c).whole in
    record {
      one = one;
      among = set_has zone.records owner ns set one is c here;
      server = server.0;
      tells = server.1;
      no_soa = λ other the_soa k tells.
          let d = in_set zone.records owner ns set other is k in
          let kind : other.kind ≡ ns = (AllByRecursion-contains (IsIn owner ns) set other is.each k).1 in
          let soa_kind : kind_of other.content ≡ soa = ap kind_of tells in
          absurd (omega (arith, kind, soa_kind, kind_of_record zone other valid d));
    }

-- records that are told of a name
owned_to : (name : Labels) (set : List Record) (one : Record) → Contains set one → Contains (owned_by name set) (record one { owner = name })
owned_to name [] one c = absurd (Contains-none one c)
owned_to name (x ∷ set) one c = elim (head_or_after x set one c) [
  | inl here ↦ subst (λ (y : Record). Contains (owned_by name (x ∷ set)) (record y { owner = name })) (sym here)
      (Contains-head (record x { owner = name }) (owned_by name set))
  | inr after ↦ Contains-after (record x { owner = name }) (owned_by name set) (record one { owner = name }) (owned_to name set one after)
]

owned_from : (name : Labels) (set : List Record) (one : Record) → Contains (owned_by name set) one
    → (other : Record) × Contains set other × (one ≡ record other { owner = name })
owned_from name [] one c = absurd (Contains-none one c)
owned_from name (x ∷ set) one c = elim (head_or_after (record x { owner = name }) (owned_by name set) one c) [
  | inl here ↦ (x, Contains-head x set, here)
  | inr after ↦ let f = owned_from name set one after in (f.0, Contains-after x set f.0 f.1, f.2)
]

-- among no records is no alias and no rule
no_first : (name : Labels) (target : Labels) → IsFirstAlias name [] target → ⊥
no_first name target is =
    Contains-none is.one (subst (λ l. Contains l is.one) (sym is.parts) (Contains-middle is.before is.one is.after))

no_rules : (name : Labels) (rules : List Naptr) → AreRulesAt name [] rules → rules ≡ []
no_rules name [] are = refl
no_rules name (rule ∷ rules) are = let f = (are.each rule).0 (Contains-head rule rules) in absurd (Contains-none f.0 f.1)

-- the first of records is an alias
head_first : (name : Labels) (one : Record) (target t : Labels) (records : List Record) → IsAlias name one target → IsFirstAlias name (one ∷ records) t → t ≡ target
head_first name one target t records here is = by is.before is.parts is.first
  where
    by : (before : List Record) → one ∷ records ≡ before ++ is.one ∷ is.after → HasNoAlias name before → t ≡ target
    by [] parts none =
        let same : is.one ≡ one = cc in
        one_target t target (sym is.here.1 ∙ ap (λ (r : Record). r.content) same ∙ here.1)
    by (x ∷ before) parts none =
        let same : x ≡ one = cc in
        absurd (none one target (subst (λ y. Contains (x ∷ before) y) same (Contains-head x before)) here)

-- the codes of what is added
adds_code : (P : ℕ → Type 0) (Further : Labels → Added → Type 0) (zones : List Zone) (name : Labels) (code : ℕ) (s : Shown) (added : Added) → P 0 → P 3 → P code
    → ((target : Labels) (rest : Added) → Further target rest → P rest.code) → Adds Further zones name code s added → P added.code
adds_code P Further zones name code outside added p q r more e = subst P (sym (ap (λ (x : Added). x.code) e)) r
adds_code P Further zones name code (cut_of set) added p q r more (zone, glue, decides, is, e) = subst P (sym (ap (λ (x : Added). x.code) e)) p
adds_code P Further zones name code (alias_of set) added p q r more (one, target, rest, only, tells, further, e) =
    subst P (sym (ap (λ (x : Added). x.code) e)) (more target rest further)
adds_code P Further zones name code (set_of set) added p q r more e = subst P (sym (ap (λ (x : Added). x.code) e)) p
adds_code P Further zones name code (no_set the_soa) added p q r more (told, n, e) = subst P (sym (ap (λ (x : Added). x.code) e)) p
adds_code P Further zones name code (no_name the_soa) added p q r more (told, n, e) = subst P (sym (ap (λ (x : Added). x.code) e)) q

pub follow_code : (P : ℕ → Type 0) (zones : List Zone) (kind left : ℕ) (seen : List Labels) (target : Labels) (added : Added) → P 0 → P 3
    → Follows zones kind left seen target added → P added.code
follow_code P zones kind zero seen target added p q e = subst P (sym (ap (λ (x : Added). x.code) e)) p
follow_code P zones kind (suc left) seen target added p q (inl (c, e)) = subst P (sym (ap (λ (x : Added). x.code) e)) p
follow_code P zones kind (suc left) seen target added p q (inr (not, (what, is, adds))) =
    let seen' : List Labels = seen ++ folded_labels target ∷ [] in
    adds_code P (Follows zones kind left seen') zones target 0 (shown what) added p q p
    (λ next rest f. follow_code P zones kind left seen' next rest p q f) adds

pub found_code : (P : ℕ → Type 0) (zones : List Zone) (kind left : ℕ) (seen : List Labels) (name : Labels) (s : Shown) (added : Added) → P 0 → P 3 → P 5
    → Adds (Follows zones kind left seen) zones name 5 s added → P added.code
found_code P zones kind left seen name s added p q r adds =
    adds_code P (Follows zones kind left seen) zones name 5 s added p q r (λ next rest f. follow_code P zones kind left seen next rest p q f) adds

-- a code that refuses nothing
abbrev IsLow : ℕ → Type 0
IsLow code = (code ≡ 0) ⊎ (code ≡ 3)

low_not : (code : ℕ) → IsLow code → ¬ (code % 16 ≡ refused)
low_not code (inl is) e = absurd (omega (arith, is, e))
low_not code (inr is) e = absurd (omega (arith, is, e))

records_said : (name : Labels) (code : ℕ) (answers authority : List Record) (o : Offer) → IsLow code → Says name (code % 16) answers authority o
    → SayRecords name answers authority o
records_said name code answers authority o low (inl (is, u)) = absurd (low_not code low is)
records_said name code answers authority o low (inr (not, (fault, records))) = records

-- what is read of a cut
cut_reads : (name : Labels) (set : List Record) (o : Offer) → IsReferral set → SayRecords name [] set o → o ≡ offer.Unserved
cut_reads name set (offer.Alias target) refers is = absurd (no_first name target is)
cut_reads name set (offer.Rules rules) refers (none, are, not) = absurd (not (no_rules name rules are) refers)
cut_reads name set offer.Unserved refers is = refl

-- .. of an alias
alias_reads : (name : Labels) (one : Record) (target : Labels) (records authority : List Record) (o : Offer) → IsAlias name one target
    → SayRecords name (one ∷ records) authority o → o ≡ offer.Alias target
alias_reads name one target records authority (offer.Alias t) here is = ap offer.Alias (head_first name one target t records here is)
alias_reads name one target records authority (offer.Rules rules) here (none, are, not) = absurd (none one target (Contains-head one records) here)
alias_reads name one target records authority offer.Unserved here (none, are, refers) = absurd (none one target (Contains-head one records) here)

-- .. where there is no set
soa_reads : (name : Labels) (the_soa told : Record) (o : Offer) → IsNegative the_soa told → SayRecords name [] (told ∷ []) o → o ≡ offer.Rules []
soa_reads name the_soa told (offer.Alias target) n is = absurd (no_first name target is)
soa_reads name the_soa told (offer.Rules rules) n (none, are, not) = ap offer.Rules (no_rules name rules are)
soa_reads name the_soa told offer.Unserved (soa, tells, is) (none, are, refers) =
    absurd (refers.no_soa told soa (Contains-head told []) (ap (λ (r : Record). r.content) is ∙ tells))

-- .. of a set, each of whose records is a rule
abbrev AreAllRules : List Record → Type 0
AreAllRules set = (one : Record) → Contains set one → (rule : Naptr) × (one.content ≡ content.Naptr rule)

set_rules : (name : Labels) (set : List Record) (rules : List Naptr) → AreRulesAt name (owned_by name set) rules → AreRulesOf set rules
set_rules name set rules are = record {
  each = λ rule. (
    λ c.
        let (x, d, at) = (are.each rule).0 c in
        let f = owned_from name set x d in
        (f.0, f.1, ap (λ (r : Record). r.content) (sym f.2) ∙ at.1),
    λ (one, c, is). (are.each rule).1 (record one { owner = name }, owned_to name set one c, (refl, is)),
  );
  rising = are.rising;
}

set_reads : (name : Labels) (set authority : List Record) (one : Record) (o : Offer) → Contains set one → AreAllRules set
    → SayRecords name (owned_by name set) authority o → (rules : List Naptr) × AreRulesOf set rules × (o ≡ offer.Rules rules)
set_reads name set authority one (offer.Alias target) c all is =
    let d : Contains (owned_by name set) is.one = subst (λ l. Contains l is.one) (sym is.parts) (Contains-middle is.before is.one is.after) in
    let f = owned_from name set is.one d in
    let (rule, tells) = all f.0 f.1 in
    let both : content.Cname target ≡ content.Naptr rule = sym is.here.1 ∙ ap (λ (r : Record). r.content) f.2 ∙ tells in
    absurd (cc)
set_reads name set authority one (offer.Rules rules) c all (none, are, not) = (rules, set_rules name set rules are, refl)
set_reads name set authority one offer.Unserved c all (none, are, refers) =
    let (rule, tells) = all one c in
    absurd (Contains-none rule ((are.each rule).1 (record one { owner = name }, owned_to name set one c, (refl, tells))))

asked_kind : (kind : ℕ) → AsksFor 35 kind → kind ≡ 35
asked_kind kind (inl is) = sym is
asked_kind kind (inr is) = absurd (omega (arith, is))

-- what is found is read so
pub found_reads : (zones : List Zone) (name : Labels) (seen : List Labels) (f : Found) (added : Added) (o : Offer) → AreZones zones → IsFound zones name 35 f
    → Adds (Follows zones 35 8 seen) zones name 5 (shown f) added → Says name (added.code % 16) added.answers added.authority o → ReadsAs f o
found_reads zones name seen found.Outside added o are is e says =
    unserved (subst (λ (x : Added). Says name (x.code % 16) x.answers x.authority o) e says)
  where
    unserved : Says name 5 [] [] o → o ≡ offer.Unserved
    unserved (inl (r, u)) = u
    unserved (inr (not, more)) = absurd (not refl)
found_reads zones name seen (found.Cut set) added o are (zone, owner, decides, highest, cut) (zone', glue, decides', glues, e) says =
    let said = subst (λ (x : Added). Says name (x.code % 16) x.answers x.authority o) e says in
    let (one, c, here, below) = highest.cut in
    let refers = cut_refers zone owner set.now (valid_of zones zone are decides.among) cut (one, c, here) in
    cut_reads name set.now o refers (records_said name 0 [] set.now o (inl refl) said)
found_reads zones name seen (found.Alias set) added o are is (one, target, rest, only, tells, further, e) says =
    let said = subst (λ (x : Added). Says name (x.code % 16) x.answers x.authority o) e says in
    let low : IsLow rest.code = follow_code IsLow zones 35 8 seen target rest (inl refl) (inr refl) further in
    let records = records_said name rest.code (owned_by name set.now ++ rest.answers) rest.authority o low said in
    let records' : SayRecords name (record one { owner = name } ∷ rest.answers) rest.authority o =
    subst (λ (l : List Record). SayRecords name (owned_by name l ++ rest.answers) rest.authority o) only records in
    (one, target, only, tells, alias_reads name (record one { owner = name }) target rest.answers rest.authority o (refl, tells) records')
found_reads zones name seen (found.Set set) added o are (zone, source, kind, served, not, answered, one) e says =
    let said = subst (λ (x : Added). Says name (x.code % 16) x.answers x.authority o) e says in
    let valid = valid_of zones zone are served.decides.among in
    let (first, c, here) = answered.here in
    let thirty_five = asked_kind kind answered.answers in
    set_reads name set.now [] first o (set_has zone.records source kind set.now first one c here)
    (λ x d.
    let k = in_set zone.records source kind set.now x one d in
    rule_content x.content
    (sym (kind_of_record zone x valid k) ∙ (AllByRecursion-contains (IsIn source kind) set.now x one.each d).1 ∙ thirty_five)
    (valid.plain x k).whole)
    (records_said name 0 (owned_by name set.now) [] o (inl refl) said)
found_reads zones name seen (found.NoSet the_soa) added o are is (told, n, e) says =
    let said = subst (λ (x : Added). Says name (x.code % 16) x.answers x.authority o) e says in
    soa_reads name the_soa.now told o n (records_said name 0 [] (told ∷ []) o (inl refl) said)
found_reads zones name seen (found.NoName the_soa) added o are is (told, n, e) says =
    let said = subst (λ (x : Added). Says name (x.code % 16) x.answers x.authority o) e says in
    soa_reads name the_soa.now told o n (records_said name 3 [] (told ∷ []) o (inr refl) said)
