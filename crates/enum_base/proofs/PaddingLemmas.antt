use Rattle.std.proofs.Common.{◌≡◌, ℕ, List, ◌++◌, length, take, drop, replicate, ap, sym, ◌∙◌}
use Rattle.std.proofs.Math.Seq.{take-append_seam}
use Rattle.std.proofs.lemmas.List.{drop-replicate}
use Rattle.enum_base.specs.Padding.{padded, IsPadded}

-- a row of zeros whose front was written over
pub padded_written : (size : ℕ) (bytes front rest : List ℕ) → front ≡ bytes
    → rest ≡ drop (length bytes) (replicate size 0) → IsPadded size (length bytes) (front ++ rest)
padded_written size bytes front rest is zeros =
    let taken : take (length bytes) (front ++ rest) ≡ bytes = ap (λ f. take (length bytes) (f ++ rest)) is ∙ take-append_seam bytes rest in
    record {
      front = ap length taken;
      rest =
          ap (padded size) taken
          ∙ ap (λ r. bytes ++ r) (sym (zeros ∙ drop-replicate (length bytes) size 0))
          ∙ ap (λ f. f ++ rest) (sym is);
    }
