use Rattle.std.proofs.Common.{ℕ, [], sym, subst}
use Rattle.dns_name.specs.Name.{folded_labels}
use Rattle.naptr_data.specs.Sources.{KeepsNames}
use Rattle.wire_source.specs.Tries.{Keeps, trouble_of}
use Rattle.wire_source.proofs.TryLemmas.{answered, keeps_next, keeps_none}
use Rattle.wire_source.proofs.source.WireSourceRuleSource.offer.Goals as goal

pub invariant_of-self : goal.invariant_of-self
invariant_of-self g c =
    let s = g.L.Link.state c.args.self.now.link.now in
    let s' = g.L.Link.state c.ask-asked.new.link in
    let self = c.args.self.now in
    record {
      keeps = subst (λ t. ∥ Keeps self.before s' c.saturating_add-self.result t ∥₁) (sym c.trouble_of-self.ensures)
          (subst (λ (n : ℕ). ∥ Keeps self.before s' n (trouble_of c.ask-asked.result) ∥₁) (sym c.saturating_add-self.ensures)
          (keeps_next self.before s s' c.args.name.now self.id c.ask-asked.new.id self.asks self.trouble c.ask-asked.result self.keeps c.ask-asked.ensures.asked));
    }

pub returns-clause-keeps : goal.returns-clause-keeps
returns-clause-keeps g c =
    subst (KeepsNames 0 (folded_labels c.args.name.now) [] []) (sym c.answer_of.ensures) (keeps_none (folded_labels c.args.name.now) c.ask-asked.result)

pub returns-clause-asked : goal.returns-clause-asked
returns-clause-asked g c =
    answered c.args.name.now c.args.self.now.id c.ask-asked.new.id (g.L.Link.state c.args.self.now.link.now) (g.L.Link.state c.ask-asked.new.link)
    c.ask-asked.result c.trouble_of-self.result c.answer_of.result c.trouble_of-self.ensures c.answer_of.ensures c.ask-asked.ensures.asked
