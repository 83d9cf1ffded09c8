use Rattle.std.proofs.Common.{inl, inr}
use Rattle.registry.proofs.RefusalLemmas.{add_clash, add_duplicate, add_large}
use Rattle.registry.proofs.registry.Registry.add_fault.Goals as goal

pub returns-then-has_rule : goal.returns-then-has_rule
returns-then-has_rule g c = inr (add_duplicate (g.P.DddsApp.meaning c.args.app.now) c.args.owner.now c.args.rule.now c.args.self.now
    (λ why h. elim (c.in-Ok.ensures.refuses why h) [ inl e ↦ absurd (cc e) | inr e ↦ absurd (cc e) ])
    (λ h. absurd (cc (c.if-is_outside.false, c.is_outside.ensures.1 h)))
    (c.has_rule.ensures.0 c.if-has_rule.true))

pub returns-then-has_kind : goal.returns-then-has_kind
returns-then-has_kind g c = inr (add_clash (g.P.DddsApp.meaning c.args.app.now) c.args.owner.now c.args.rule.now c.args.self.now
    (λ why h. elim (c.in-Ok.ensures.refuses why h) [ inl e ↦ absurd (cc e) | inr e ↦ absurd (cc e) ])
    (λ h. absurd (cc (c.if-is_outside.false, c.is_outside.ensures.1 h)))
    (λ h. absurd (cc (c.if-has_rule.false, c.has_rule.ensures.1 h)))
    (c.has_kind.ensures.0 c.if-has_kind.true))

pub returns-then-not-has_room : goal.returns-then-not-has_room
returns-then-not-has_room g c = inr (add_large (g.P.DddsApp.meaning c.args.app.now) c.args.owner.now c.args.rule.now c.args.self.now
    (λ why h. elim (c.in-Ok.ensures.refuses why h) [ inl e ↦ absurd (cc e) | inr e ↦ absurd (cc e) ])
    (λ h. absurd (cc (c.if-is_outside.false, c.is_outside.ensures.1 h)))
    (λ h. absurd (cc (c.if-has_rule.false, c.has_rule.ensures.1 h)))
    (λ h. absurd (cc (c.if-has_kind.false, c.has_kind.ensures.1 h)))
    (c.has_room.ensures.full c.if-not-has_room.true))
