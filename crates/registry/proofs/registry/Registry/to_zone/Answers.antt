use Rattle.std.proofs.Common.{◌≡◌, ◌∷◌, ◌++◌, [], ap, subst, sym, ◌∙◌}
use Rattle.std.specs.Prelude.{Contains}
use Rattle.dns_wire.specs.declared.record.Record.{Record}
use Rattle.zone_build.specs.Built.{IsBuilt}
use Rattle.registry.proofs.ChangeLemmas.{zone_of}
use Rattle.registry.proofs.ZoneLemmas.{valid_is_built}
use Rattle.registry.proofs.registry.Registry.to_zone.Goals as goal

pub build-requires : goal.build-requires
build-requires c = λ one h.
    let all : c.copy_to.new.to ≡ c.self.inside.soa ∷ c.self.inside.sets =
    c.in_ok-copy_to.ensures
    ∙ ap (λ l. l ++ c.self.inside.sets) (c.in_ok-push.ensures.ok
    ∙ ap (λ l. l ++ c.in_ok-copy.field-0 ∷ []) c.new-records.ensures ∙ ap (λ (x : Record). x ∷ []) c.in_ok-copy.ensures) in
    c.self.invariant.plain one (subst (λ l. Contains l one) all h)

pub returns-in-Ok : goal.returns-in-Ok
returns-in-Ok c =
    let all : c.copy_to.new.to ≡ c.self.inside.soa ∷ c.self.inside.sets =
    c.in_ok-copy_to.ensures
    ∙ ap (λ l. l ++ c.self.inside.sets) (c.in_ok-push.ensures.ok
    ∙ ap (λ l. l ++ c.in_ok-copy.field-0 ∷ []) c.new-records.ensures ∙ ap (λ (x : Record). x ∷ []) c.in_ok-copy.ensures) in
    c.one_zone.ensures c.copy_to.new.to c.in-Ok.zone c.args.self.now c.in-Ok.ensures.built
    (subst (λ z. IsBuilt c.copy_to.new.to z) c.self.view_is
    (subst (λ l. IsBuilt l (zone_of c.self.inside.apex c.self.inside.soa c.self.inside.sets)) (sym all)
    (valid_is_built (zone_of c.self.inside.apex c.self.inside.soa c.self.inside.sets) c.self.invariant)))
