use Rattle.std.proofs.Common.{get_or}
use Rattle.std.proofs.lemmas.List.Elements.{Contains-get_or}
use Rattle.zone_build.proofs.IndexLemmas.{none_more, none_turned}
use Rattle.zone_build.proofs.index.first_meeting.Goals as goal

pub meets-requires : goal.meets-requires
meets-requires c = c.requires (get_or c.args.list.now c.loop-one.one-index _) (Contains-get_or c.args.list.now c.loop-one.one-index _ c.loop-one-test.true)

pub loop-one-preserved : goal.loop-one-preserved
loop-one-preserved c =
    none_more c.args.sought c.args.records.now c.args.name.now c.args.list.now c.loop-one.one-index _
    c.loop-one-test.true c.loop-one.invariant (λ m. absurd (cc (c.if-meets.false, c.if-meets.ensures.1 m)))

pub returns-clause-none : goal.returns-clause-none
returns-clause-none c =
    none_turned c.args.sought c.args.records.now c.args.name.now c.args.list.now c.loop-one.one-index
    c.loop-one-test.false c.loop-one.invariant
