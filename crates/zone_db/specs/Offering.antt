-- Zones as a source of rules, for private functions but for `Asked` (this project's own).
use Rattle.std.specs.Prelude.{◌≡◌, ◌≢◌, ℕ, ◌≤◌, List, [], ◌∷◌, ◌++◌, length, ⊤}
use Rattle.std.specs.List.{AllByRecursion}
use Rattle.std.specs.declared.cmp.Ordering.TheVariants.{Less}
use Rattle.std.specs.Ordering.{nat_cmp}
use Rattle.std.specs.Cmp.Lexicographic.{slice_cmp}
use Rattle.naptr_rule.specs.Rdata.{IsRule}
use Rattle.naptr_data.specs.Zones.{Labels}
use Rattle.naptr_rule.specs.declared.rule.Naptr.{Naptr}
use Rattle.dns_wire.specs.Rdata.{rdata_of}
use Rattle.dns_wire.specs.declared.content.Content.{Content}
use Rattle.dns_wire.specs.declared.content.Content.TheVariants as content
use Rattle.dns_wire.specs.declared.record.Record.{Record}
use Rattle.zone_build.specs.Zone.{Zone}
use Rattle.zone_db.specs.declared.found.Found.{Found}
use Rattle.zone_db.specs.declared.found.Found.TheVariants as found

-- what contracts see of a source over zones: the zones, and how often it was asked
pub record Asked : Type 0 where
  pub zones : List Zone
  pub asks : ℕ

-- the RDATA of each record comes before that of all after it
abbrev pub RdataRises : List Record → Type 0
RdataRises [] = Unit {0}
RdataRises (one ∷ rest) =
    AllByRecursion (λ next. slice_cmp nat_cmp (rdata_of one.content) (rdata_of next.content) ≡ Less) rest × RdataRises rest

-- a rule was appended where content is one, and else nothing
pub record IsPushed (said : Content) (old new : List Naptr) : Type 0 where
  pub rule : (one : Naptr) → said ≡ content.Naptr one → (new ≡ old ++ one ∷ []) × IsRule one
  pub other : ((one : Naptr) → said ≢ content.Naptr one) → new ≡ old

-- an alias that was found is one CNAME; a set that was found is not large, and its RDATA rises
abbrev pub IsReadable : Found → Type 0
IsReadable found.Outside = ⊤
IsReadable (found.Cut set) = ⊤
IsReadable (found.Alias set) = (one : Record) × (target : Labels) × (set.now ≡ one ∷ []) × (one.content ≡ content.Cname target)
IsReadable (found.Set set) = (length set.now ≤ 60_000) × RdataRises set.now
IsReadable (found.NoSet the_soa) = ⊤
IsReadable (found.NoName the_soa) = ⊤
