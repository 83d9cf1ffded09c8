-- A link to zones in memory.
use Rattle.std.proofs.Common.{◌≡◌, ℕ, List, [], ◌++◌, Some, Result, Ok, Err, OnOk, refl, sym, ap, subst, ◌∙◌, arith}
use Rattle.std.specs.Prelude.{Contains}
use Rattle.enum_base.specs.Causes.{HasCause, one_more}
use Rattle.zone_build.specs.Zone.{Zone}
use Rattle.zone_db.specs.Links.{Exchanges, Kept, recent_after}
use Rattle.zone_db.specs.Replies.{IsReply}
use Rattle.zone_db.specs.declared.way.Way.{Way}
use Rattle.responder.specs.Answering.{AppendsReply, IsWhole}
use Rattle.responder.specs.Loops.{MemoryLink, Replies, link_state}

-- a reply that was appended to nothing
pub from_nothing : (zones : List Zone) (query : List ℕ) (way : Way) (old new : List ℕ) → old ≡ [] → AppendsReply zones query way old new
    → IsReply zones query way (Some new) × IsWhole way new
from_nothing zones query way old new is appends =
    let same : new ≡ appends.reply = appends.appended ∙ ap (λ o. o ++ appends.reply) is in
    (subst (λ b. IsReply zones query way (Some b)) (sym same) appends.is, subst (IsWhole way) (sym same) appends.whole)

-- .. is held
pub replies_ok : {E : Type 0} (old : MemoryLink) (held : List ℕ) (way : Way) (query : List ℕ)
    → IsReply old.zones query way (Some held) × IsWhole way held → ¬ Contains old.failing old.kept.exchanges
    → Replies {E = E} old (record old { held = held }) way query (Ok tt)
replies_ok old held way query reply not = record {
  zones = refl;
  failing = refl;
  kept = refl;
  held = reply;
  listed = λ listed. absurd (not listed);
  err = tt;
  silent = λ silent. absurd (reply.0.0 silent);
  ok = refl;
  cause = record { later = omega arith; failed = tt; kept = refl };
  raised = tt;
}

-- an exchange that was begun with this query
abbrev pub begun : Kept → Way → List ℕ → Kept
begun kept way query = record { exchanges = one_more kept.exchanges; way = way; query = query; recent = kept.recent }

first_of : {A E : Type 0} (P Q : Type 0) (result : Result A E) → OnOk result (P × Q) → OnOk result P
first_of P Q (Ok done) both = both.0
first_of P Q (Err fault) both = tt

second_of : {A E : Type 0} (P Q : Type 0) (result : Result A E) → OnOk result (P × Q) → OnOk result Q
second_of P Q (Ok done) both = both.1
second_of P Q (Err fault) both = tt

exchanged : {E : Type 0} (old now : MemoryLink) (way : Way) (query : List ℕ) (done : Result Unit E)
    → Replies (record old { kept = begun old.kept way query }) now way query done
    → Exchanges (link_state old) (link_state (record now { kept = record now.kept { recent = recent_after now.kept.recent done } })) way query done
exchanged old now way query done replies = record {
  told = ap (λ (z : List Zone). Some z) replies.zones;
  counted = ap (λ (k : Kept). k.exchanges) replies.kept;
  way = ap (λ (k : Kept). k.way) replies.kept;
  query = ap (λ (k : Kept). k.query) replies.kept;
  recent = ap (λ (k : Kept). recent_after k.recent done) replies.kept;
  replied = first_of _ _ done replies.held;
  whole = second_of _ _ done replies.held;
  silent = λ silent. (replies.silent silent).0;
}

-- .. and is told of what the struct holds before and after
pub exchange_told : {E : Type 0} (old now mid last : MemoryLink) (kept kept' : Kept) (way : Way) (query : List ℕ) (done : Result Unit E)
    → now ≡ old → kept ≡ begun now.kept way query → Replies (record now { kept = kept }) mid way query done → last ≡ mid
    → kept' ≡ record last.kept { recent = recent_after last.kept.recent done }
    → Exchanges (link_state old) (link_state (record last { kept = kept' })) way query done
exchange_told old now mid last kept kept' way query done same is replies later end =
    let one : Replies (record now { kept = begun now.kept way query }) last way query done =
    subst (λ (m : MemoryLink). Replies (record now { kept = begun now.kept way query }) m way query done) (sym later)
    (subst (λ (k : Kept). Replies (record now { kept = k }) mid way query done) is replies) in
    subst (λ (o : MemoryLink). Exchanges (link_state o) (link_state (record last { kept = kept' })) way query done) same
    (subst (λ (k : Kept). Exchanges (link_state now) (link_state (record last { kept = k })) way query done) (sym end)
    (exchanged now last way query done one))

pub exchange_cause : {E : Type 0} (old now mid last : MemoryLink) (kept : Kept) (way : Way) (query : List ℕ) (done : Result Unit E)
    → now ≡ old → Replies (record now { kept = kept }) mid way query done → last ≡ mid → HasCause old.faults last.faults done
exchange_cause old now mid last kept way query done same replies later =
    subst (λ (o : MemoryLink). HasCause o.faults last.faults done) same
    (subst (λ (m : MemoryLink). HasCause now.faults m.faults done) (sym later) replies.cause)
