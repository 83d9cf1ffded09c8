use Rattle.std.proofs.Common.{sym, ap, ◌∙◌}
use Rattle.dns_wire.specs.Kinds.{kind_of}
use Rattle.dns_wire.specs.Rdata.{rdata_of}
use Rattle.zone_build.specs.Building.{Given}
use Rattle.zone_build.proofs.OrderLemmas.{bytes_cmp}
use Rattle.zone_build.proofs.RdataLemmas.{same_kind, whole_cmp}
use Rattle.zone_build.proofs.entry.Entry.cmp_rdata.Goals as goal

pub cmp_rule-requires : goal.cmp_rule-requires
cmp_rule-requires c =
    same_kind c.other.inside.given.now c.self.inside.given.now c.other.invariant.plain c.self.invariant.plain
    (ap (λ (g : Given). g.given.kind) c.other.view_is ∙ sym c.requires
    ∙ ap (λ (g : Given). g.given.kind) (sym c.self.view_is))
    ∙ ap kind_of c.in-Naptr.is

pub returns-in_default : goal.returns-in_default
returns-in_default c =
    c.cmp.ensures ∙ ap (λ l. bytes_cmp l c.as_slice-other_rdata.result.now) c.as_slice-rdata.ensures
    ∙ ap (bytes_cmp c.self.inside.rdata) c.as_slice-other_rdata.ensures
    ∙ whole_cmp c.self.inside.given.now c.other.inside.given.now _ _ _ _ _ _ c.self.inside.rdata c.other.inside.rdata
    c.self.invariant c.other.invariant c.in_default.not-Naptr
    (ap (λ (g : Given). g.given.kind) c.self.view_is ∙ c.requires
    ∙ ap (λ (g : Given). g.given.kind) (sym c.other.view_is))
    ∙ ap (λ (g : Given). bytes_cmp (rdata_of g.given.content) (rdata_of c.other.inside.given.now.content))
    c.self.view_is
    ∙ ap (λ (g : Given). bytes_cmp (rdata_of c.args.self.now.given.content)
    (rdata_of g.given.content)) c.other.view_is
