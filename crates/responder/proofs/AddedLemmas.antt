-- What is added for a name.
use Rattle.std.proofs.Common.{◌≡◌, ℕ, zero, suc, ◌-◌, ◌<◌, List, [], ◌∷◌, ◌++◌, inl, inr, sym, ap, subst, ◌∙◌, arith, Result, Ok, Err, IfOk}
use Rattle.std.specs.Prelude.{Contains}
use Rattle.dns_name.specs.Name.{folded_labels}
use Rattle.naptr_data.specs.Zones.{Labels}
use Rattle.dns_wire.specs.declared.record.Record.{Record}
use Rattle.zone_build.specs.Zone.{Zone}
use Rattle.zone_db.specs.LookUp.{IsFound, shown}
use Rattle.zone_db.specs.LookUp.Shown.{alias_of}
use Rattle.zone_db.specs.Replies.{Adds, Follows, nothing, owned_by}
use Rattle.zone_db.specs.declared.draft.Added.{Added}
use Rattle.zone_db.specs.declared.found.Found.{Found}
use Rattle.responder.specs.Ready.{IsAliasOf}

-- a code and one record, put where there was nothing
pub negative_added : (none : Added) (code : ℕ) (told : Record) (pushed : List Record) → none ≡ nothing code
    → pushed ≡ none.authority ++ told ∷ [] → record none { authority = pushed } ≡ record (nothing code) { authority = told ∷ [] }
negative_added none code told pushed is push =
    ap (λ (x : Added). record x { authority = pushed }) is
    ∙ ap (λ (a : List Record). record (nothing code) { authority = a }) (push ∙ ap (λ (x : Added). x.authority ++ told ∷ []) is)

-- nothing is followed where no alias may be, or where the target was looked up
pub follows_none : (zones : List Zone) (kind left : ℕ) (seen : List Labels) (target : Labels) (added : Added) → left ≡ 0
    → added ≡ nothing 0 → Follows zones kind left seen target added
follows_none zones kind left seen target added none is = subst (λ n. Follows zones kind n seen target added) (sym none) is

pub follows_seen : (zones : List Zone) (kind left : ℕ) (seen : List Labels) (target : Labels) (added : Added)
    → Contains seen (folded_labels target) → added ≡ nothing 0 → Follows zones kind left seen target added
follows_seen zones kind zero seen target added c is = is
follows_seen zones kind (suc left) seen target added c is = inl (c, is)

-- else the target is
pub follows_more : (zones : List Zone) (kind left : ℕ) (seen seen' : List Labels) (target : Labels) (found : Found) (added : Added)
    → 0 < left → ¬ Contains seen (folded_labels target) → seen' ≡ seen ++ folded_labels target ∷ [] → IsFound zones target kind found
    → Adds (Follows zones kind (left - 1) seen') zones target 0 (shown found) added → Follows zones kind left seen target added
follows_more zones kind zero seen seen' target found added some not more is adds = absurd (omega (arith, some))
follows_more zones kind (suc left) seen seen' target found added some not more is adds =
    let fewer : suc left - 1 ≡ left = omega arith in
    let one : Adds (Follows zones kind left seen') zones target 0 (shown found) added =
    subst (λ n. Adds (Follows zones kind n seen') zones target 0 (shown found) added) fewer adds in
    inr (not, (found, is, subst (λ s. Adds (Follows zones kind left s) zones target 0 (shown found) added) more one))

-- an alias before what was added for its target
pub alias_adds : {E : Type 0} (zones : List Zone) (kind left : ℕ) (seen : List Labels) (name target : Labels) (code : ℕ) (set : List Record)
    (rest : Added) (result : Result Added E) → IsAliasOf set target → Follows zones kind left seen target rest
    → IfOk result (λ added. added ≡ record rest { answers = owned_by name set ++ rest.answers })
    → IfOk result (λ added. Adds (Follows zones kind left seen) zones name code (alias_of set) added)
alias_adds zones kind left seen name target code set rest (Ok added) (one, is, tells) follows adds =
    (one, target, rest, is, tells, follows, adds)
alias_adds zones kind left seen name target code set rest (Err fault) alias follows adds = tt
