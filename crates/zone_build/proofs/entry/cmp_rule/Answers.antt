use Rattle.std.proofs.Common.{sym, ap, ◌∙◌}
use Rattle.naptr_rule.specs.Rdata.{rdata}
use Rattle.dns_wire.specs.Rdata.{rdata_of}
use Rattle.dns_wire.specs.declared.content.Content.{Content}
use Rattle.zone_build.proofs.OrderLemmas.{bytes_cmp}
use Rattle.zone_build.proofs.RdataLemmas.{only_rules, rank_is_rdata}
use Rattle.zone_build.proofs.entry.cmp_rule.Goals as goal

pub returns-in-Naptr : goal.returns-in-Naptr
returns-in-Naptr c =
    c.cmp_rank.ensures.order ∙ rank_is_rdata c.args.rule.now c.in-Naptr.other c.cmp_rank.ensures.rules.0 c.cmp_rank.ensures.rules.1
    ∙ ap (λ (said : Content). bytes_cmp (rdata c.args.rule.now) (rdata_of said)) (sym c.in-Naptr.is)

pub returns-in_default : goal.returns-in_default
returns-in_default c = absurd (only_rules c.args.said.now c.in_default.not-Naptr c.requires)
