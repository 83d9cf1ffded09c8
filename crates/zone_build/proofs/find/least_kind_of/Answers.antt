use Rattle.std.proofs.Common.{Some, sym, subst, ap, ◌∙◌, arith}
use Rattle.dns_name.specs.Name.{AreSame}
use Rattle.zone_build.specs.Finding.{IsLeastKindAt, least_kind_with}
use Rattle.zone_build.specs.Indexing.{key_of}
use Rattle.zone_build.proofs.FindLemmas.{least_at, least_alone, least_nowhere}
use Rattle.zone_build.proofs.find.least_kind_of.Goals as goal

pub kind_at-requires : goal.kind_at-requires
kind_at-requires c =
    let are = c.requires.index.places (key_of c.args.index.now.seed c.args.owner.now) c.in-Some.places c.in-Some.ensures.there in
    let s = are.some in
    let w = are.within in
    omega arith

pub returns-in-Some : goal.returns-in-Some
returns-in-Some c =
    let records = c.args.records.now in
    let owner = c.args.owner.now in
    let are = c.requires.index.places (key_of c.args.index.now.seed owner) c.in-Some.places c.in-Some.ensures.there in
    subst (λ n. IsLeastKindAt records owner (Some n)) (ap (least_kind_with c.same-is_apex.result) (sym c.kind_at.ensures) ∙ sym c.lesser_kind.ensures)
    (least_at records owner c.in-Some.places c.same-is_apex.result c.requires.canonical are c.in-Some.ensures.meets
    (λ e. subst (λ n. AreSame n owner) c.owner_at.ensures (c.same-is_apex.ensures.0 e))
    (λ same. c.same-is_apex.ensures.1 (subst (λ n. AreSame n owner) (sym c.owner_at.ensures) same)))

pub returns-in-None : goal.returns-in-None
returns-in-None c =
    least_alone c.args.records.now c.args.index.now c.args.owner.now c.requires.canonical c.requires.index
    c.in-None.ensures.none
    (subst (λ n. AreSame n c.args.owner.now) c.owner_at.ensures (c.same-is_apex.ensures.0 c.if-is_apex.true))

pub returns-in-None-2 : goal.returns-in-None-2
returns-in-None-2 c =
    least_nowhere c.args.records.now c.args.index.now c.args.owner.now c.requires.index c.in-None.ensures.none
    (λ same. absurd
    (cc (
      c.if-is_apex.false,
      c.same-is_apex.ensures.1 (subst (λ n. AreSame n c.args.owner.now) (sym c.owner_at.ensures) same),
    )))
