-- Printed lines of edges.
use Rattle.std.proofs.Common.{◌≡◌, ℕ, ◌-◌, ◌<◌, List, [], ◌∷◌, ◌++◌, length, take, drop, refl, sym, ap, ◌∙◌, arith}
use Rattle.std.proofs.lemmas.List.{append-nil}
use Rattle.std.proofs.lemmas.Grind.{common_steps}
use Rattle.naptr_data.specs.Zones.{Labels}
use Rattle.report_text.specs.Printing.{edge_lines}

-- less than two domains have no edge between them
no_edges : (ranks : List ℕ) (domains : List Labels) → length domains < 2 → edge_lines ranks domains ≡ []
no_edges [] domains few = refl
no_edges (rank ∷ ranks) [] few = refl
no_edges (rank ∷ ranks) (from ∷ []) few = refl
no_edges (rank ∷ ranks) (from ∷ to ∷ domains) few = absurd (omega arith)

pub no_more_edges : (out whole : List ℕ) (ranks : List ℕ) (domains : List Labels) → length domains < 2 → out ++ edge_lines ranks domains ≡ whole → out ≡ whole
no_more_edges out whole ranks domains few is =
    sym (append-nil out) ∙ ap (λ ls. out ++ ls) (sym (no_edges ranks domains few)) ∙ is

-- a list with less than one element after its first
pub one_domain : (domains : List Labels) → length (take (length domains - 1) (drop 1 domains)) < 1 → length domains < 2
one_domain domains few = grind (arith, common_steps)
