-- The laws of the crates below, that the work of requests rests on.
use Rattle.dns_wire.specs.Laws.{MessageOrBreak}
use Rattle.zone_db.specs.Laws.{ToldRulesAreApart}
use Rattle.enum_top.proofs.OneMessageLemmas.{AreMessageLaws}
use Rattle.enum_top.proofs.OneZonesLemmas.{AreLaws}
use Rattle.enum_top.proofs.ReportLemmas.{HasOneText}
use Rattle.enum_top.proofs.SomeResolveLemmas.{HasReport}
use Rattle.enum_top.proofs.SomeZonesLemmas.{AreTotal}

pub record Laws : Type 0 where
  pub one_zones : AreLaws
  pub some_zones : AreTotal
  pub one_text : HasOneText
  pub some_report : HasReport
  pub rules_apart : ToldRulesAreApart
  pub one_message : AreMessageLaws
  pub some_message : MessageOrBreak
