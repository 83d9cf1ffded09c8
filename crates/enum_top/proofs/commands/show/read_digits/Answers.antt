use Rattle.std.proofs.Common.{inl, inr, Ok, List, ℕ, ◌++◌, refl, sym, ap, ◌∙◌, rules}
use Rattle.enum_top.proofs.DoesLemmas.{done, ill_formed}
use Rattle.enum_top.proofs.HexLemmas.{hex_of_decoded, no_hex}
use Rattle.enum_top.proofs.commands.show.read_digits.Goals as goal

pub returns : goal.returns
returns c =
    let copied = c.in_ok-push_slice.ensures.ok ∙ ap (λ (front : List ℕ). front ++ c.as_slice.result.now) c.new-bytes.ensures ∙ c.as_slice.ensures.value in
    done (inl (_, hex_of_decoded _ _ (c.in-Ok.ensures.ok ∙ ap Ok (sym copied)), refl))

pub returns-in-Err : goal.returns-in-Err
returns-in-Err c = ill_formed (inr (no_hex _ c.in-Err.field-0 (search rules) c.in-Err.ensures.err, refl))
