use Rattle.std.proofs.Common.{◌≡◌, List, [], ◌∷◌, ◌++◌, ap, subst, ◌∙◌}
use Rattle.dns_name.specs.Name.{folded_labels}
use Rattle.naptr_data.specs.Zones.{Labels}
use Rattle.zone_db.specs.LookUp.{shown}
use Rattle.zone_db.specs.Replies.{Adds, Follows, draft_with}
use Rattle.responder.proofs.said.found_for.Goals as goal

pub returns-clause-finds : goal.returns-clause-finds
returns-clause-finds c =
    let zones = c.args.zones.now in
    let question = c.args.question.now in
    let found = c.lookup-found.result in
    let added = c.in_ok-added.added in
    let seen : c.push.new.self ≡ folded_labels question.name ∷ [] =
    c.in_ok-push.ensures.ok ∙ ap (λ (s : List Labels). s ++ c.fold.result ∷ []) c.new-seen.ensures ∙ ap (λ (n : Labels). n ∷ []) c.fold.ensures in (
      found,
      added,
      c.lookup-found.ensures,
      subst (λ (s : List Labels). Adds (Follows zones question.kind 8 s) zones question.name 5 (shown found) added) seen c.in_ok-added.ensures.adds,
      c.draft_with.ensures.draft ∙ ap (λ a. draft_with question a added) c.is_authoritative-authoritative.ensures,
    )
