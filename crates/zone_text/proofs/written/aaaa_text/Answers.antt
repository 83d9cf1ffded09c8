use Rattle.std.proofs.Common.{[], ◌++◌, length, take, drop, get_or, codes, ap, ◌∙◌, arith, length-take}
use Rattle.std.specs.List.{flat_map}
use Rattle.std.specs.Net.Text.{hex, groups_text}
use Rattle.zone_text.proofs.WrittenLemmas.{length-segments, groups_end}
use Rattle.zone_text.proofs.written.aaaa_text.Goals as goal

pub push_group-requires-in-loop-group-clause-room : goal.push_group-requires-in-loop-group-clause-room
push_group-requires-in-loop-group-clause-room c = omega (arith, ap length c.new-text.ensures, length-take 7 (drop 1 c.segments-groups.result))

pub returns : goal.returns
returns c =
    let groups = c.segments-groups.ensures ∙ c.from_octets.ensures in
    let eight = ap length groups ∙ length-segments 8 c.args.address.now c.told-address in
    let first = c.push_group.ensures.value ∙ ap (λ text. (text ++ []) ++ hex (get_or c.segments-groups.result 0 0)) c.new-text.ensures in
    c.loop-group.invariant.bytes
    ∙ ap (λ text. text ++ flat_map (λ group. codes ":"
    ++ hex group) (take c.loop-group.group-index (take 7 (drop 1 c.segments-groups.result)))) first
    ∙ groups_end c.segments-groups.result c.loop-group.group-index eight c.loop-group-test.false ∙ ap groups_text groups
