use Rattle.std.proofs.Common.{◌≡◌, Some, sym, subst, ap, ◌∙◌, arith}
use Rattle.std.specs.Prelude.{Contains, nat_eq}
use Rattle.std.specs.Map.{lookup}
use Rattle.zone_build.specs.Indexing.{Indexed, Meets, NoneMeets, candidates, owner_at}
use Rattle.zone_build.specs.declared.index.Places.{Places}
use Rattle.zone_build.proofs.IndexLemmas.{first_within, in_map, in_rest, none_in_both, some_map, none_map}
use Rattle.zone_build.proofs.index.Index.find_under.Goals as goal
use Rattle.zone_build.proofs.index.Index.find_under.Goals.{in-Some+else-meets, in_default}

pub meets-requires : goal.meets-requires
meets-requires c =
    let key = c.args.key in
    let one = c.in-Some.one.now in
    let is : lookup (nat_eq key) c.args.self.now.entries ≡ Some one =
    subst (λ (i : Indexed). lookup (nat_eq key) i.entries ≡ Some one) c.self.view_is (sym c.in-Some.ensures.value) in
    let p = c.requires key one (in_map c.args.self.now key one is) in
    let s = p.some in
    let w = p.within in
    omega arith

pub first_meeting-requires : goal.first_meeting-requires
first_meeting-requires c =
    first_within c.args.records.now c.args.self.now c.as_slice.result.now c.requires (c.as_slice.ensures.value ∙ ap (λ (i : Indexed). i.rest) c.self.view_is)

pub returns-then-meets-clause-there : goal.returns-then-meets-clause-there
returns-then-meets-clause-there c =
    in_map c.args.self.now c.args.key c.in-Some.one.now
    (subst (λ (i : Indexed). lookup (nat_eq c.args.key) i.entries
    ≡ Some c.in-Some.one.now) c.self.view_is (sym c.in-Some.ensures.value))

pub returns-clause-there : goal.returns-clause-there
returns-clause-there c =
    some_map (Contains c.as_slice.result.now) (Contains (candidates c.args.self.now c.args.key))
    (λ one k. in_rest c.args.self.now c.args.key c.as_slice.result.now one
    (c.as_slice.ensures.value
    ∙ ap (λ (i : Indexed). i.rest) c.self.view_is) k) c.first_meeting.result c.first_meeting.ensures.there

pub returns-clause-none : goal.returns-clause-none
returns-clause-none c =
    let key = c.args.key in
    let index = c.args.self.now in
    let at : lookup (nat_eq key) c.self.inside.map.entries ≡ lookup (nat_eq key) index.entries =
    ap (λ (i : Indexed). lookup (nat_eq key) i.entries) c.self.view_is in
    none_map (NoneMeets c.args.sought c.args.records.now c.args.name.now c.as_slice.result.now)
    (NoneMeets c.args.sought c.args.records.now c.args.name.now (candidates index key))
    (none_in_both c.args.sought c.args.records.now c.args.name.now index key c.as_slice.result.now
    (c.as_slice.ensures.value ∙ ap (λ (i : Indexed). i.rest) c.self.view_is)
    (λ one is m. elim c.match-get.branch [
      | in-Some+else-meets w ↦
          let same : w.in-Some.one.now ≡ one = let e = w.in-Some.ensures.value ∙ at ∙ is in cc in
          cc (
            w.if-meets.false,
            w.meets.ensures.1
                (subst (λ (p : Places). Meets c.args.sought (owner_at c.args.records.now p.first) c.args.name.now)
                (sym same) m),
          )
      | in_default w ↦ let e = w.in_default.ensures.value ∙ at ∙ is in absurd (cc)
    ]))
    c.first_meeting.result c.first_meeting.ensures.none
