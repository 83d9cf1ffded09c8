-- The work of a command that prints nothing before it is done.
use Rattle.std.proofs.Common.{◌≡◌, ℕ, List, Result, Err, refl, sym, ap, ◌∙◌}
use Rattle.enum_base.proofs.StageLemmas.{IsSingle, IsTotal}
use Rattle.enum_top.specs.Verdicts.{AreTold, AtOnce, IsSound, Told, Verdict, Work, whole}
use Rattle.enum_top.specs.declared.cause.Cause.{Cause}
use Rattle.enum_top.specs.declared.objects.Object.{Object}
use Rattle.enum_top.specs.declared.status.Printed.{Printed}

-- the work of stages over what the objects tell
abbrev pub at_once : (Told → Result Printed Cause → Type 0) → (Cause → Type 0) → (Object → Type 0) → (Told → List ℕ → Type 0) → Work
at_once Stages breaks uses fronts =
    record { answers = λ told. AtOnce (Stages told); breaks = breaks; uses = uses; fronts = fronts }

one_whole : (Stages : Result Printed Cause → Type 0) → IsSingle Stages → (one other : Verdict) → AtOnce Stages one → AtOnce Stages other → one ≡ other
one_whole Stages single one other h k =
    h.is ∙ ap whole (single.same h.result k.result h.comes k.comes) ∙ sym k.is

pub IsSound-at_once : (Stages : Told → Result Printed Cause → Type 0) (breaks : Cause → Type 0)
    (uses : Object → Type 0) (fronts : Told → List ℕ → Type 0)
    → ((told : Told) → AreTold (at_once Stages breaks uses fronts) told → IsSingle (Stages told))
    → ((told : Told) → IsTotal (Stages told))
    → ((told : Told) (cause : Cause) → breaks cause → Stages told (Err cause))
    → IsSound (at_once Stages breaks uses fronts)
IsSound-at_once Stages breaks uses fronts single total early = record {
  single = λ told one other seen h k. one_whole (Stages told) (single told seen) one other h k;
  total = λ told. let t = total told in (whole t.result, record { result = t.result; comes = t.comes; is = refl });
  early = λ told cause broken. record { result = Err cause; comes = early told cause broken; is = refl };
}
