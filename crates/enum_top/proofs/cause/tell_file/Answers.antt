use Rattle.std.proofs.Common.{[], ◌∷◌, ◌++◌}
use Rattle.enum_top.proofs.LineLemmas.{told_both, told_first}
use Rattle.enum_top.proofs.cause.tell_file.Goals as goal

pub returns-in_err-write_three : goal.returns-in_err-write_three
returns-in_err-write_three g c =
    rw (← c.text_at.ensures, ← c.as_bytes.ensures.value)
    (told_first _ _ (c.args.head.now ++ c.as_bytes.result.now ++ 32 ∷ []) c.args.fault.now
    c.write_three.ensures.takes c.in_err-write_three.ensures.cause.failed)

pub returns : goal.returns
returns g c =
    rw (← c.text_at.ensures, ← c.as_bytes.ensures.value, ← c.as_slice.ensures.value)
    (told_both _ _ _ (c.args.head.now ++ c.as_bytes.result.now ++ 32 ∷ []) c.as_slice.result.now
    c.in_ok-write_three.ensures.whole c.in_ok-write_three.ensures.cause.kept c.write_two.ensures.takes)
