-- What a source of rules has kept and fetched while it was asked (this project's own).
use Rattle.std.specs.Prelude.{◌≡◌, ◌↔◌, ◌⊎◌, ℕ, ◌+◌, ◌≤◌, List, length, Contains}
use Rattle.naptr_data.specs.Sources.{AreDistinct}
use Rattle.naptr_data.specs.Zones.{Labels}
use Rattle.ddds_walk.specs.Asking.{more}

-- there is room for all names that were kept before and asked
abbrev pub HasRoom : ℕ → (kept asked : List Labels) → Type 0
HasRoom room kept asked =
    (all : List Labels) × (length all ≤ room) × ((d : Labels) → Contains kept d ⊎ Contains asked d → Contains all d)

-- what a source keeps and has fetched, where it was asked for these names, one after another, and answered each
pub record HasKept (room : ℕ) (kept : List Labels) (fetched : ℕ) (asked kept' : List Labels)
    (fetched' : ℕ) : Type 0 where
  -- the asked names that it kept when they were asked, and the others, which were fetched
  pub hits : List Labels
  pub misses : List Labels
  pub each : (d : Labels) → Contains asked d ↔ (Contains hits d ⊎ Contains misses d)
  pub count : length asked ≡ length hits + length misses
  pub hits_once : AreDistinct hits
  pub misses_once : AreDistinct misses
  pub before : (d : Labels) → Contains hits d → Contains kept d
  pub fetches : fetched' ≡ more (length misses) fetched
  pub only : (d : Labels) → Contains kept' d → Contains kept d ⊎ Contains asked d
  -- where there is room for all, all are kept now, and no miss had been kept before
  pub stay : HasRoom room kept asked → (d : Labels) → Contains kept d ⊎ Contains asked d → Contains kept' d
  pub lacking : HasRoom room kept asked → (d : Labels) → Contains misses d → ¬ Contains kept d
