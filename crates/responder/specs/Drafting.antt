-- What is said to a query, for private functions (this project's own).
use Rattle.std.specs.Prelude.{◌≡◌, ℕ, ◌+◌, ◌*◌, ◌<◌, ◌≤◌, List, [], ◌∷◌, ◌++◌, Option, Some, None}
use Rattle.naptr_data.specs.Zones.{Labels}
use Rattle.dns_wire.specs.declared.content.Content.TheVariants as content
use Rattle.dns_wire.specs.declared.record.Record.{Record}
use Rattle.zone_build.specs.Zone.{Zone}
use Rattle.zone_db.specs.Replies.{Plan, says, looks_up, bare, nothing, AddressesOf, IsGlue, IsNegative}
use Rattle.zone_db.specs.declared.draft.Added.{Added}
use Rattle.zone_db.specs.declared.draft.Draft.{Draft}
use Rattle.responder.specs.Sizes.{size, base_size}
use Rattle.responder.specs.declared.plan.Plan.{Plan as Planned}
use Rattle.responder.specs.declared.plan.Plan.TheVariants as planned
use Rattle.responder.specs.declared.cut.Cut.{Cut}
use Rattle.responder.specs.declared.cut.Cut.TheVariants as cut

-- what a plan is as the definitions have it
abbrev pub plan_as : Planned → Plan
plan_as (planned.Says code) = says (bare code None)
plan_as (planned.Refuses code question) = says (bare code (Some question))
plan_as (planned.LooksUp question) = looks_up question

-- the addresses of one server were put after the others
pub record AddsAddresses (zone : Zone) (cut server : Labels) (old new : List Record) : Type 0 where
  pub addresses : List Record
  pub are : AddressesOf zone cut server addresses
  pub grown : new ≡ old ++ addresses

-- .. which a record tells
pub record AddsGlue (zone : Zone) (one : Record) (old new : List Record) : Type 0 where
  pub server : Labels
  pub tells : one.content ≡ content.Ns server
  pub adds : AddsAddresses zone one.owner server old new

-- what is added at a cut: its servers, and their addresses in this zone
abbrev pub IsReferral : Zone → List Record → Added → Type 0
IsReferral zone set added =
    (glue : List Record) × IsGlue zone set glue × (added ≡ record { code = 0; answers = []; authority = set; glue = glue })

-- what is added where something is not there
abbrev pub AddsNegative : Record → ℕ → Added → Type 0
AddsNegative the_soa code added = (told : Record) × IsNegative the_soa told × (added ≡ record (nothing code) { authority = told ∷ [] })

-- an alias is followed by what was looked up for its target, or by nothing
abbrev pub most_added : ℕ → ℕ
most_added more = 520 * (more + 1) + 60_000

-- how many bytes the answers and the authority have
abbrev pub added_size : Added → ℕ
added_size added = size added.answers + size added.authority

-- what is said is small but for its glue: with any options it fits a stream
abbrev pub IsSmall : Draft → Type 0
IsSmall draft = (options : Option Record) → base_size options draft ≤ 65_535

-- how much of what is said goes out
abbrev pub IsCutTo : ℕ → Option Record → Draft → Cut → Type 0
IsCutTo limit options draft cut.Whole = base_size options draft + size draft.glue ≤ limit
IsCutTo limit options draft cut.NoGlue = (limit < base_size options draft + size draft.glue) × (base_size options draft ≤ limit)
IsCutTo limit options draft cut.Short = limit < base_size options draft
