-- RDATA in order: that of rules is in the order of their fields.
use Rattle.std.proofs.Common.{◌≡◌, ◌≢◌, ℕ, zero, suc, ◌+◌, ◌*◌, ◌<◌, ◌==◌, ◌&&◌, List, length, refl, sym, ap, ◌∙◌, arith}
use Rattle.std.specs.declared.cmp.Ordering.{Ordering}
use Rattle.std.specs.declared.cmp.Ordering.TheVariants.{Less, Equal, Greater}
use Rattle.std.specs.Int.{byte_at}
use Rattle.std.specs.Ordering.{nat_cmp, ordering_then}
use Rattle.std.specs.Cmp.{nat_cmp_is}
use Rattle.std.specs.Prelude.{IsTrue, nat_lt}
use Rattle.std.proofs.lemmas.Bool.{and_parts, eqb-true}
use Rattle.std.proofs.Math.Nat.{mod-lt}
use Rattle.std.proofs.lemmas.Cmp.{ranked}
use Rattle.std.proofs.lemmas.Nat.{from_be_bytes-to_be_bytes_2}
use Rattle.naptr_rule.specs.Rank.{rank_of}
use Rattle.naptr_rule.specs.Rdata.{IsRule, rdata}
use Rattle.naptr_rule.specs.declared.rule.Naptr.{Naptr}
use Rattle.dns_wire.specs.Kinds.{belongs, kind_of, is_whole, internet, a, ns, cname, soa, ptr, mx, txt, aaaa, srv, naptr}
use Rattle.dns_wire.specs.Rdata.{rdata_of}
use Rattle.dns_wire.specs.declared.content.Content.{Content}
use Rattle.dns_wire.specs.declared.content.Content.TheVariants as content
use Rattle.dns_wire.specs.declared.record.Record.{Record}
use Rattle.zone_build.specs.Zone.{IsPlain}
use Rattle.zone_build.specs.Building.{AreKeys, front_of, compared_bytes}
use Rattle.zone_build.proofs.FrontLemmas.{BytesBelow, front-none, front-next, fronts_apart}
use Rattle.zone_build.proofs.OrderLemmas.{bytes_cmp, nat_cmp-equal}

-- the kind of a record of the ten kinds is that of its content
pub kind_is : (c : Content) (kind class : ℕ) → IsTrue (belongs kind class c) → IsTrue (is_whole c) → kind ≡ kind_of c
kind_is (content.A address) kind class b w = eqb-true kind a (and_parts (kind == a) (class == internet) b).0
kind_is (content.Ns server) kind class b w = eqb-true kind ns (and_parts (kind == ns) (class == internet) b).0
kind_is (content.Cname target) kind class b w = eqb-true kind cname (and_parts (kind == cname) (class == internet) b).0
kind_is (content.Soa fields) kind class b w = eqb-true kind soa (and_parts (kind == soa) (class == internet) b).0
kind_is (content.Ptr name) kind class b w = eqb-true kind ptr (and_parts (kind == ptr) (class == internet) b).0
kind_is (content.Mx preference exchange) kind class b w = eqb-true kind mx (and_parts (kind == mx) (class == internet) b).0
kind_is (content.Txt texts) kind class b w =
    eqb-true kind txt (and_parts (kind == txt) (class == internet)
    (and_parts (kind == txt && class == internet) (nat_lt 0 (length texts)) b).0).0
kind_is (content.Aaaa address) kind class b w = eqb-true kind aaaa (and_parts (kind == aaaa) (class == internet) b).0
kind_is (content.Srv priority weight port target) kind class b w = eqb-true kind srv (and_parts (kind == srv) (class == internet) b).0
kind_is (content.Naptr r) kind class b w = eqb-true kind naptr (and_parts (kind == naptr) (class == internet) b).0
kind_is (content.Opt options) kind class b w = absurd (cc)
kind_is (content.Raw bytes) kind class b w = absurd (cc)

-- content that is no rule
abbrev pub IsNoRule : Content → Type 0
IsNoRule said = (rule : Naptr) → said ≡ content.Naptr rule → ⊥

-- what is no rule is compared by its RDATA
pub compared_whole : (said : Content) → IsNoRule said → rdata_of said ≡ compared_bytes said
compared_whole (content.A address) none = refl
compared_whole (content.Ns server) none = refl
compared_whole (content.Cname target) none = refl
compared_whole (content.Soa fields) none = refl
compared_whole (content.Ptr name) none = refl
compared_whole (content.Mx preference exchange) none = refl
compared_whole (content.Txt texts) none = refl
compared_whole (content.Aaaa address) none = refl
compared_whole (content.Srv priority weight port target) none = refl
compared_whole (content.Naptr rule) none = absurd (none rule refl)
compared_whole (content.Opt options) none = refl
compared_whole (content.Raw bytes) none = refl

-- only rules are of their kind
pub only_rules : (said : Content) → IsNoRule said → kind_of said ≡ naptr → ⊥
only_rules (content.A address) none is = omega (arith, is)
only_rules (content.Ns server) none is = omega (arith, is)
only_rules (content.Cname target) none is = omega (arith, is)
only_rules (content.Soa fields) none is = omega (arith, is)
only_rules (content.Ptr name) none is = omega (arith, is)
only_rules (content.Mx preference exchange) none is = omega (arith, is)
only_rules (content.Txt texts) none is = omega (arith, is)
only_rules (content.Aaaa address) none is = omega (arith, is)
only_rules (content.Srv priority weight port target) none is = omega (arith, is)
only_rules (content.Naptr rule) none is = none rule refl
only_rules (content.Opt options) none is = omega (arith, is)
only_rules (content.Raw bytes) none is = omega (arith, is)

-- two of one kind are rules or not
pub no_rules : (one other : Content) → IsNoRule one → kind_of one ≡ kind_of other → IsNoRule other
no_rules one other none same rule is = only_rules one none (same ∙ ap kind_of is)

-- plain records of one kind have content of one kind
pub same_kind : (one other : Record) → IsPlain one → IsPlain other → one.kind ≡ other.kind → kind_of one.content ≡ kind_of other.content
same_kind one other p q same =
    sym (kind_is one.content one.kind one.class one.belongs p.whole) ∙ same ∙ kind_is other.content other.kind other.class other.belongs q.whole

-- what is compared of records of one kind that are no rules is their RDATA
pub whole_cmp : (one other : Record) (kind ttl front kind' ttl' front' : ℕ) (bytes bytes' : List ℕ)
    → AreKeys one kind ttl front bytes → AreKeys other kind' ttl' front' bytes' → IsNoRule one.content
    → one.kind ≡ other.kind → bytes_cmp bytes bytes' ≡ bytes_cmp (rdata_of one.content) (rdata_of other.content)
whole_cmp one other kind ttl front kind' ttl' front' bytes bytes' keys keys' none same =
    ap (λ l. bytes_cmp l bytes') (keys.of_content ∙ sym (compared_whole one.content none))
    ∙ ap (bytes_cmp (rdata_of one.content))
    (keys'.of_content
    ∙ sym (compared_whole other.content
    (no_rules one.content other.content none (same_kind one other keys.plain keys'.plain same))))

-- RDATA of rules begins with their two numbers
bytes_of : (n : ℕ) (i : ℕ) → byte_at i n < 256
bytes_of n zero = mod-lt _ (omega arith)
bytes_of n (suc i) = mod-lt _ (omega arith)

small : (rule : Naptr) → BytesBelow 4 (rdata rule)
small rule zero h = bytes_of rule.order 1
small rule (suc zero) h = bytes_of rule.order 0
small rule (suc (suc zero)) h = bytes_of rule.preference 1
small rule (suc (suc (suc zero))) h = bytes_of rule.preference 0
small rule (suc (suc (suc (suc at)))) h = absurd (omega arith)

fewer : (rule : Naptr) → BytesBelow 2 (rdata rule)
fewer rule at h = small rule at (omega arith)

front_order : (rule : Naptr) → IsRule rule → front_of 2 (rdata rule) ≡ rule.order
front_order rule is =
    let number = from_be_bytes-to_be_bytes_2 rule.order is.order in
    let none = front-none (rdata rule) in
    let one = front-next 0 (rdata rule) in
    let two = front-next 1 (rdata rule) in
    omega (arith, number, none, one, two)

front_both : (rule : Naptr) → IsRule rule → front_of 4 (rdata rule) ≡ 65536 * rule.order + rule.preference
front_both rule is =
    let number = from_be_bytes-to_be_bytes_2 rule.preference is.preference in
    let order = front_order rule is in
    let three = front-next 2 (rdata rule) in
    let four = front-next 3 (rdata rule) in
    omega (arith, number, order, three, four)

-- ORDER decides, where it differs
by_order : (one other : Naptr) → IsRule one → IsRule other → (o : Ordering) → o ≡ nat_cmp one.order other.order
    → o ≢ Equal → o ≡ bytes_cmp (rdata one) (rdata other)
by_order one other h k o is not =
    fronts_apart 2 (rdata one) (rdata other) o (fewer one) (fewer other)
    (is ∙ ap (λ n. nat_cmp n other.order) (sym (front_order one h))
    ∙ ap (nat_cmp (front_of 2 (rdata one))) (sym (front_order other k))) not

-- after equal ORDER the two numbers are in the order of PREFERENCE
both_numbers : (one other : Naptr) → IsRule one → IsRule other → one.order ≡ other.order → (p : Ordering)
    → p ≡ nat_cmp one.preference other.preference → p ≡ nat_cmp (front_of 4 (rdata one)) (front_of 4 (rdata other))
both_numbers one other h k same Less is =
    let less = ranked one.preference other.preference Less is in
    let first = front_both one h in
    let second = front_both other k in
    nat_cmp_is (front_of 4 (rdata one)) (front_of 4 (rdata other)) Less (omega (arith, less, same, first, second))
both_numbers one other h k same Equal is =
    let equal = ranked one.preference other.preference Equal is in
    let first = front_both one h in
    let second = front_both other k in
    nat_cmp_is (front_of 4 (rdata one)) (front_of 4 (rdata other)) Equal (omega (arith, equal, same, first, second))
both_numbers one other h k same Greater is =
    let greater = ranked one.preference other.preference Greater is in
    let first = front_both one h in
    let second = front_both other k in
    nat_cmp_is (front_of 4 (rdata one)) (front_of 4 (rdata other)) Greater (omega (arith, greater, same, first, second))

by_numbers : (one other : Naptr) → IsRule one → IsRule other → (o p : Ordering) → o ≡ nat_cmp one.order other.order
    → p ≡ nat_cmp one.preference other.preference
    → ordering_then o (ordering_then p (bytes_cmp (rdata one) (rdata other))) ≡ bytes_cmp (rdata one) (rdata other)
by_numbers one other h k Less p order preference = by_order one other h k Less order (λ e. cc)
by_numbers one other h k Greater p order preference = by_order one other h k Greater order (λ e. cc)
by_numbers one other h k Equal Less order preference =
    fronts_apart 4 (rdata one) (rdata other) Less (small one) (small other)
    (both_numbers one other h k (nat_cmp-equal one.order other.order (sym order)) Less preference) (λ e. cc)
by_numbers one other h k Equal Greater order preference =
    fronts_apart 4 (rdata one) (rdata other) Greater (small one) (small other)
    (both_numbers one other h k (nat_cmp-equal one.order other.order (sym order)) Greater preference) (λ e. cc)
by_numbers one other h k Equal Equal order preference = refl

-- rules are in the order of their RDATA
pub rank_is_rdata : (one other : Naptr) → IsRule one → IsRule other → rank_of one other ≡ bytes_cmp (rdata one) (rdata other)
rank_is_rdata one other h k = by_numbers one other h k (nat_cmp one.order other.order) (nat_cmp one.preference other.preference) refl refl
