use Rattle.ddds_walk.specs.Report.{way_round}
use Rattle.enum_top.proofs.OneMessageLemmas.{AreMessageLaws}
use Rattle.enum_top.proofs.OneZonesLemmas.{AreLaws}
use Rattle.enum_top.proofs.ReportLemmas.{one_text}
use Rattle.enum_top.proofs.SomeZonesLemmas.{AreTotal}
use Rattle.enum_top.proofs.SoundLemmas.{IsSound-work}
use Rattle.enum_top.proofs.laws.sound_work.Goals as goal

pub returns : goal.returns
returns c =
    let zones : AreLaws = record {
      one_text = c.says_once.ensures;
      one_break = c.breaks_once.ensures;
      no_break = c.says_or_breaks.ensures;
      one_zone = c.one_zone.ensures;
      one_fault = c.one_zone_fault.ensures.one;
      no_fault = c.one_zone_fault.ensures.none;
      one_reason = c.one_add_fault.ensures.one;
      no_reason = c.one_add_fault.ensures.none;
    } in
    let some : AreTotal = record {
      text = c.says_when_unbroken.ensures;
      zone = c.zone_or_fault.ensures;
      set = c.one_add_fault.ensures.some;
    } in
    let messages : AreMessageLaws = record {
      one_message = c.message_is_one.ensures.one_message;
      one_break = c.message_is_one.ensures.one_break;
      not_both = c.message_is_one.ensures.not_both;
    } in
    IsSound-work (record {
      one_zones = zones;
      some_zones = some;
      one_text = one_text c.one_report.ensures (λ client zs keys one other. c.one_loop.ensures client zs keys (way_round one) (way_round other));
      some_report = c.some_report.ensures.apart;
      rules_apart = c.rules_are_apart.ensures;
      one_message = messages;
      some_message = c.message_is_one.ensures.some;
    })
