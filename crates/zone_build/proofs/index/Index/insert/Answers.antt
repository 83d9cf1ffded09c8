use Rattle.std.proofs.Common.{◌≡◌, ◌++◌, Option, Some, None, refl, sym, ap, ◌∙◌}
use Rattle.std.specs.Prelude.{nat_eq}
use Rattle.std.specs.Option.{option_to_list}
use Rattle.std.specs.Map.{lookup}
use Rattle.zone_build.specs.declared.index.Places.{Places}
use Rattle.zone_build.proofs.IndexLemmas.{inserted_key, list_kept}
use Rattle.zone_build.proofs.index.Index.insert.Goals as goal

pub returns-in_ok-push-in-Some : goal.returns-in_ok-push-in-Some
returns-in_ok-push-in-Some c =
    let old = c.self.inside in
    let is : lookup (nat_eq c.args.key) old.map.entries ≡ Some c.in-Some.before =
    let e = c.in_ok-before.ensures.old in let f = c.in-Some.is in cc in
    rw (← c.self.view_is)
    (inserted_key _ _ c.args.key c.args.places c.in_ok-before.ensures.updates.0 c.in_ok-before.ensures.updates.1
    (c.in_ok-push-in-Some.ensures.items ∙ ap (λ (o : Option Places). old.rest.items ++ option_to_list o) (sym is)) refl)

pub returns-in-None : goal.returns-in-None
returns-in-None c =
    let old = c.self.inside in
    let is : lookup (nat_eq c.args.key) old.map.entries ≡ None =
    let e = c.in_ok-before.ensures.old in let f = c.in-None.is in cc in
    rw (← c.self.view_is)
    (inserted_key _ _ c.args.key c.args.places c.in_ok-before.ensures.updates.0 c.in_ok-before.ensures.updates.1
    (list_kept old.rest.items (lookup (nat_eq c.args.key) old.map.entries) is) refl)
