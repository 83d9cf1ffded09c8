use Rattle.std.proofs.Common.{sym, subst, ◌∙◌}
use Rattle.dns_name.specs.Name.{IsName}
use Rattle.zone_build.specs.Building.{Given}
use Rattle.zone_build.specs.declared.entry.Key.TheVariants.{Owner, Set, Whole}
use Rattle.zone_build.proofs.OrderLemmas.{equal_alike}
use Rattle.zone_build.proofs.entry.Entry.cmp_by.Goals as goal

pub returns-in-Owner-clause-alike : goal.returns-in-Owner-clause-alike
returns-in-Owner-clause-alike c = λ e.
    rw c.in-Owner.is (equal_alike Owner c.args.self.now.given c.args.other.now.given
    (subst (λ (g : Given). IsName g.given.owner) c.self.view_is c.self.invariant.name)
    (subst (λ (g : Given). IsName g.given.owner) c.other.view_is c.other.invariant.name)
    (sym c.cmp_owner.ensures ∙ e))

pub returns-in-Set-clause-alike : goal.returns-in-Set-clause-alike
returns-in-Set-clause-alike c = λ e.
    rw c.in-Set.is (equal_alike Set c.args.self.now.given c.args.other.now.given
    (subst (λ (g : Given). IsName g.given.owner) c.self.view_is c.self.invariant.name)
    (subst (λ (g : Given). IsName g.given.owner) c.other.view_is c.other.invariant.name)
    (sym c.cmp_set.ensures ∙ e))

pub returns-in-Whole-clause-alike : goal.returns-in-Whole-clause-alike
returns-in-Whole-clause-alike c = λ e.
    rw c.in-Whole.is (equal_alike Whole c.args.self.now.given c.args.other.now.given
    (subst (λ (g : Given). IsName g.given.owner) c.self.view_is c.self.invariant.name)
    (subst (λ (g : Given). IsName g.given.owner) c.other.view_is c.other.invariant.name)
    (sym c.cmp_record.ensures ∙ e))
