use Rattle.std.proofs.Common.{◌≡◌, ◌<◌, List, [], ◌∷◌, ◌++◌, refl, sym, ap, subst, ◌∙◌, arith}
use Rattle.std.specs.Prelude.{Contains}
use Rattle.dns_name.specs.Name.{folded_labels}
use Rattle.naptr_data.specs.Zones.{Labels}
use Rattle.zone_db.specs.Replies.{Follows}
use Rattle.responder.proofs.AddedLemmas.{alias_adds, follows_none, follows_seen, follows_more}
use Rattle.responder.proofs.added.+added_for.Goals as goal
use Rattle.responder.proofs.added.+added_for.Goals.{then-more-eq0-via-then-more-eq0, then-more-eq0-via-else-more-eq0+then-was_seen}

pub returns-then-more-eq0-clause-adds : goal.returns-then-more-eq0-clause-adds
returns-then-more-eq0-clause-adds t c =
    let zones = c.args.zones.now in
    let kind = c.args.question.now.kind in
    let seen : List Labels = c.args.seen.now in
    let target = c.target_of-target.result in
    let rest = c.nothing-then-more-eq0.result in
    let follows : Follows zones kind c.args.more seen target rest = elim c.then-more-eq0.branch [
      | then-more-eq0-via-then-more-eq0 w ↦ follows_none zones kind c.args.more seen target rest
          (omega (arith, w.if-more-eq0.true)) c.nothing-then-more-eq0.ensures
      | then-more-eq0-via-else-more-eq0+then-was_seen w ↦ follows_seen zones kind c.args.more seen target rest
          (subst (λ l. Contains l (folded_labels target)) w.as_slice.ensures (w.if-was_seen.ensures.0 refl)) c.nothing-then-more-eq0.ensures
    ] in
    rw c.in-Alias.is (alias_adds zones kind c.args.more seen c.args.question.now.name target c.args.code c.in-Alias.set.now rest c.with_alias.result
    c.target_of-target.ensures follows c.with_alias.ensures.added)

pub returns-in_ok-rest-in-Alias-clause-adds : goal.returns-in_ok-rest-in-Alias-clause-adds
returns-in_ok-rest-in-Alias-clause-adds t c =
    let zones = c.args.zones.now in
    let kind = c.args.question.now.kind in
    let seen : List Labels = c.args.seen.now in
    let target = c.target_of-target.result in
    let rest = c.in_ok-rest-in-Alias.rest in
    let not : ¬ Contains seen (folded_labels target) =
    λ h. absurd (cc (c.if-was_seen.ensures.1 (subst (λ l. Contains l (folded_labels target)) (sym c.as_slice.ensures) h))) in
    let more : c.push.new.self ≡ seen ++ folded_labels target ∷ [] =
    c.in_ok-push-in-Alias.ensures.ok ∙ ap (λ (n : Labels). seen ++ n ∷ []) c.fold.ensures in
    let some : 0 < c.args.more = omega (arith, c.if-more-eq0.false) in
    let follows : Follows zones kind c.args.more seen target rest =
    follows_more zones kind c.args.more seen c.push.new.self target c.lookup.result rest some not more c.lookup.ensures c.in_ok-rest-in-Alias.ensures.adds in
    rw c.in-Alias.is (alias_adds zones kind c.args.more seen c.args.question.now.name target c.args.code c.in-Alias.set.now rest c.with_alias-in-Alias.result
    c.target_of-target.ensures follows c.with_alias-in-Alias.ensures.added)
