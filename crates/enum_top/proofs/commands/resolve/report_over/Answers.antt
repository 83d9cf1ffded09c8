use Rattle.std.proofs.Common.{◌≡◌, ◌+◌, ◌∙◌, Err, length, map, ap, sym}
use Rattle.std.proofs.lemmas.List.{length-map}
use Rattle.dns_name.specs.Name.{folded_labels}
use Rattle.naptr_data.specs.Zones.{rules_and_aliases}
use Rattle.zone_db.specs.Offering.{Asked}
use Rattle.zone_build.specs.Plain.{told}
use Rattle.enum_top.specs.Running.{listed}
use Rattle.enum_top.proofs.WalkLemmas.{no_more}
use Rattle.enum_top.proofs.commands.resolve.report_over.Goals as goal

pub unreachable-requires : goal.unreachable-requires
unreachable-requires c =
    let count = c.rules_and_aliases.ensures.count ∙ ap (λ (s : Asked). rules_and_aliases (told s.zones)) (sym c.new-source.ensures) in
    let keys : length c.as_slice.result.now ≡ length (map folded_labels (listed c.args.inquiry.now.keys)) =
    ap length c.as_slice.ensures.domains ∙ sym (length-map (listed c.args.inquiry.now.keys) folded_labels) in
    no_more _ _ _ _ (λ i. count i + keys i) (c.needed_bound.ensures _ _ _)
    (c.in-Err-Limit.ensures.past c.in-Err-Limit.field-0-0 (ap Err c.in-Err-Limit.field-0-is))
