-- A walk over told zones ends by itself.
use Rattle.std.proofs.Common.{◌≡◌, ℕ, ◌+◌, ◌≤◌, List, length, arith}
use Rattle.ddds_walk.specs.Asking.{Holds, NeedsMore}
use Rattle.ddds_walk.specs.Graph.{Graph}
use Rattle.ddds_walk.specs.Report.{AreSomeNeeded}
use Rattle.naptr_data.specs.Zones.{Labels, Zone, rules_and_aliases}

-- no more domains are needed than the limit
pub no_more : (zones : List Zone) (g : Graph Labels) (keys : List Labels) (count : ℕ) → count ≡ rules_and_aliases zones + length keys
    → ((names ds : List Labels) → Holds names keys → AreSomeNeeded g keys ds → length ds ≤ rules_and_aliases zones + length names)
    → NeedsMore g keys count → ⊥
no_more zones g keys count is bound (ds, some, more) =
    let most = bound keys ds (λ key stands. stands) some in absurd (omega arith)
