use Rattle.std.proofs.Common.{refl, sym, subst}
use Rattle.dns_name.specs.Name.{IsBelow}
use Rattle.zone_db.proofs.FoundLemmas.{deciding_passed, deciding_kept, deciding_first, deciding_longer}
use Rattle.zone_db.proofs.deciding.better.Goals as goal
use Rattle.zone_db.proofs.deciding.better.Goals.{in_default-via-in-Some+else-is_below, in_default-via-in_default}

pub returns-then-not-is_below : goal.returns-then-not-is_below
returns-then-not-is_below c = λ zones apart h.
    deciding_passed zones c.args.name.now _ c.args.zone.now
    (λ b. absurd
    (cc (c.if-not-is_below.ensures.1 (subst (IsBelow c.args.name.now) (sym c.apex-apex.ensures.apex) b)))) h

pub returns-in-Some : goal.returns-in-Some
returns-in-Some c =
    rw c.in-Some.is (λ zones apart h. deciding_kept zones c.args.name.now c.in-Some.known.now c.args.zone.now
    (apart c.in-Some.known.now h.among)
    (subst (λ a. IsBelow a c.args.zone.now.apex) c.apex.ensures.apex
    (subst (IsBelow c.apex.result) c.apex-apex.ensures.apex (c.if-is_below.ensures.0 refl))) h)

pub returns-in_default : goal.returns-in_default
returns-in_default c =
    let above = subst (IsBelow c.args.name.now) c.apex-apex.ensures.apex (c.if-not-is_below.ensures.0 refl) in
    elim c.in_default.branch [
      | in_default-via-in-Some+else-is_below w ↦
          rw w.in-Some.is
          (λ zones apart h. deciding_longer zones c.args.name.now w.in-Some.known.now c.args.zone.now above
          (λ b. absurd
          (cc (w.if-is_below.ensures.1
          (subst (λ a. IsBelow a c.apex-apex.result) (sym w.apex.ensures.apex)
          (subst (IsBelow w.in-Some.known.now.apex) (sym c.apex-apex.ensures.apex) b))))) h)
      | in_default-via-in_default w ↦
          rw w.in_default.is (λ zones apart h. deciding_first zones c.args.name.now c.args.zone.now above h)
    ]
