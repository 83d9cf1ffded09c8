use Rattle.std.proofs.Common.{◌≡◌, Some, Err, []}
use Rattle.dns_name.specs.Reading.{name_of}
use Rattle.ddds_walk.specs.Rules.{HasOutput}
use Rattle.ddds_walk.proofs.GiftLemmas.{no_name}
use Rattle.ddds_walk.proofs.rule_edge.name_of.Goals as goal

pub returns : goal.returns
returns c =
    let has : HasOutput c.args.rule.now c.args.aus.now c.in-Some.output = rw c.in-Some.is at c.in_ok-output.ensures in
    let read : name_of c.in-Some.output (Some []) ≡ Err c.in-Err.field-0 =
    cc (c.from_text.ensures.value, c.as_slice.ensures, c.root-root.ensures, c.in-Err.is) in
    no_name c.one_output.ensures.output c.args.rule.now c.args.aus.now c.in-Some.output c.in-Err.field-0 has read
