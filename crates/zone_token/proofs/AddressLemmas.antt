use Rattle.std.proofs.Common.{◌≡◌, ◌∙◌, ℕ, zero, suc, ◌-◌, ◌<◌, List, ◌++◌, Bool, Some, None, refl, sym, ap, arith}
use Rattle.zone_token.specs.Texts.{◌>>=◌}
use Rattle.zone_token.specs.Addresses.{cut, colon, group_of, last_group, groups_of}
use Rattle.zone_token.proofs.TextLemmas.{bytes_before, before-before}

-- the last group
pub groups-last : (more : ℕ) (quad : Bool) (text : List ℕ) → 0 < more → cut colon text ≡ None → groups_of more quad text ≡ last_group quad text
unfolding groups_of
groups-last zero quad text some is = absurd (omega arith)
groups-last (suc more) quad text some is = rw is refl

-- a group before others
pub groups-step : (more : ℕ) (quad : Bool) (text part after : List ℕ) → 0 < more → cut colon text ≡ Some (part, after)
    → groups_of more quad text ≡ (group_of part >>= λ group. bytes_before group (groups_of (more - 1) quad after))
unfolding groups_of
groups-step zero quad text part after some is = absurd (omega arith)
groups-step (suc more) quad text part after some is =
    rw is (ap (λ n. group_of part >>= λ group. bytes_before group (groups_of n quad after)) (let e : more ≡ suc more - 1 = omega arith in e))

none-left : (quad : Bool) (text : List ℕ) → groups_of 0 quad text ≡ None
unfolding groups_of
none-left quad text = refl

-- the loop over groups: what each of its ends and its step give

pub loop_goes_on : (bytes now : List ℕ) (more : ℕ) (quad : Bool) (left rest text part group : List ℕ)
    → bytes_before bytes (groups_of more quad left) ≡ groups_of 8 quad text → 0 < more
    → cut colon left ≡ Some (part, rest) → group_of part ≡ Some group → now ≡ bytes ++ group
    → bytes_before now (groups_of (more - 1) quad rest) ≡ groups_of 8 quad text
loop_goes_on bytes now more quad left rest text part group same some is read pushed =
    let step : groups_of more quad left ≡ bytes_before group (groups_of (more - 1) quad rest) =
    groups-step more quad left part rest some is
    ∙ ap (λ o. o >>= λ g. bytes_before g (groups_of (more - 1) quad rest)) read in
    rw pushed (sym (before-before bytes group (groups_of (more - 1) quad rest)) ∙ ap (bytes_before bytes) (sym step) ∙ same)

pub loop_breaks : (bytes : List ℕ) (more : ℕ) (quad : Bool) (left rest text part : List ℕ)
    → bytes_before bytes (groups_of more quad left) ≡ groups_of 8 quad text → 0 < more
    → cut colon left ≡ Some (part, rest) → group_of part ≡ None → None ≡ groups_of 8 quad text
loop_breaks bytes more quad left rest text part same some is read =
    sym (ap (bytes_before bytes)
    (groups-step more quad left part rest some is
    ∙ ap (λ o. o >>= λ g. bytes_before g (groups_of (more - 1) quad rest)) read)) ∙ same

pub loop_ends : (bytes now : List ℕ) (more : ℕ) (quad : Bool) (left text last : List ℕ)
    → bytes_before bytes (groups_of more quad left) ≡ groups_of 8 quad text → 0 < more → cut colon left ≡ None
    → last_group quad left ≡ Some last → now ≡ bytes ++ last → Some now ≡ groups_of 8 quad text
loop_ends bytes now more quad left text last same some is read pushed =
    ap Some pushed ∙ sym (ap (bytes_before bytes) (groups-last more quad left some is ∙ read)) ∙ same

pub loop_ends_broken : (bytes : List ℕ) (more : ℕ) (quad : Bool) (left text : List ℕ)
    → bytes_before bytes (groups_of more quad left) ≡ groups_of 8 quad text → 0 < more → cut colon left ≡ None
    → last_group quad left ≡ None → None ≡ groups_of 8 quad text
loop_ends_broken bytes more quad left text same some is read =
    sym (ap (bytes_before bytes) (groups-last more quad left some is ∙ read)) ∙ same

pub loop_is_full : (bytes : List ℕ) (quad : Bool) (left text : List ℕ)
    → bytes_before bytes (groups_of 0 quad left) ≡ groups_of 8 quad text → None ≡ groups_of 8 quad text
loop_is_full bytes quad left text same = sym (ap (bytes_before bytes) (none-left quad left)) ∙ same
