-- What a source keeps of its link, for who uses it through a generic call.
use Rattle.std.proofs.Common.{◌≡◌, ℕ, ◌≤◌, refl}
use Rattle.std.specs.Prelude.{IsTrue, Option, Some, None, is_some}
use Rattle.std.proofs.Math.Logic.{∥∥₁_elim, ∥∥₁_map}
use Rattle.std.proofs.Props.{props}
use Rattle.enum_base.specs.Causes.{many_more}
use Rattle.zone_db.specs.Links.{LinkState}
use Rattle.zone_db.specs.declared.link.Counts.{Counts}
use Rattle.wire_source.specs.Tries.{Keeps, WasTrouble, lent_of}
use Rattle.wire_source.specs.declared.trouble.Trouble.{Trouble}

-- where the same was lent, the link is the same, and its counts then
pub same_lent : (link other : ℕ) (before then' : Counts) → lent_of link before ≡ lent_of other then'
    → (link ≡ other) × (before.exchanges ≡ then'.exchanges) × (before.faults ≡ then'.faults)
same_lent link other before then' is = (cc, cc, cc)

-- each ask began an exchange
pub kept_rose : (before : Counts) (now : LinkState) (asks : ℕ) (last : Option Trouble) → ∥ Keeps before now asks last ∥₁
    → many_more before.exchanges asks ≤ now.exchanges
kept_rose before now asks last keeps = ∥∥₁_elim keeps (Prim.hlevel props) (λ (k : Keeps before now asks last). k.rose)

-- the count of faults does not fall
pub kept_faults : (before : Counts) (now : LinkState) (asks : ℕ) (last : Option Trouble) → ∥ Keeps before now asks last ∥₁ → before.faults ≤ now.faults
kept_faults before now asks last keeps = ∥∥₁_elim keeps (Prim.hlevel props) (λ (k : Keeps before now asks last). k.faults)

-- a source that failed had trouble
pub had_trouble : (before : Counts) (now : LinkState) (asks : ℕ) (last : Option Trouble) → IsTrue (is_some last) → ∥ Keeps before now asks last ∥₁
    → ∥ ((t : Trouble) × (last ≡ Some t) × WasTrouble before now t) ∥₁
had_trouble before now asks None failed keeps = absurd (cc)
had_trouble before now asks (Some t) failed keeps = ∥∥₁_map keeps (λ (k : Keeps before now asks (Some t)). (t, refl, k.trouble t refl))
