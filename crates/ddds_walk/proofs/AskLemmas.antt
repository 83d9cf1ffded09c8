-- One ask of a walk: what it leaves of the source, and of the counts.
use Rattle.std.proofs.Common.{◌≡◌, ℕ, ◌<◌, ◌≤◌, List, [], ◌∷◌, ◌++◌, length, take, sym, ap, subst, inr, arith}
use Rattle.std.specs.Prelude.{Contains, Ok, Err, IsTrue}
use Rattle.std.proofs.lemmas.List.{length-append}
use Rattle.enum_base.specs.Causes.{Rose, one_more}
use Rattle.enum_base.specs.Outside.{WhereTold}
use Rattle.naptr_data.specs.Sources.{RuleSourceState, AreDistinct, HasFewRules, BringsToFront, Fetches, AreKept}
use Rattle.naptr_data.specs.Zones.{Labels, IsOffer}
use Rattle.naptr_data.specs.declared.offer.Offer.{Offer}
use Rattle.ddds_walk.specs.Asking.{more}
use Rattle.ddds_walk.specs.Kept.{HasKept}
use Rattle.ddds_walk.specs.Turns.{HasAsked}
use Rattle.ddds_walk.specs.declared.fault.WalkFault.TheVariants.{Trouble, Memory}
use Rattle.ddds_walk.proofs.ElementLemmas.{distinct_push}
use Rattle.ddds_walk.proofs.KeptLemmas.{kept_more, asks_more}

module _ (limit : ℕ) (t u : RuleSourceState) (asked asked' : List Labels) (next : Labels)
    (once : AreDistinct asked) (room_left : length asked < limit) (new : ¬ Contains asked next) (grew : asked' ≡ asked ++ next ∷ [])
    (zones : u.zones ≡ t.zones) (room : u.room ≡ t.room) (lent : u.lent ≡ t.lent) (later : t.troubles ≤ u.troubles)
    (asks : u.asks ≡ one_more t.asks) where
  once_more : AreDistinct asked'
  once_more = subst (λ v. AreDistinct v) (sym grew) (distinct_push asked next once new)

  few_more : length asked' ≤ limit
  few_more = let e : length asked' ≡ length (asked ++ next ∷ []) = ap length grew in omega (arith, length-append asked (next ∷ []))

  asks_grew : (a : ℕ) → t.asks ≡ more (length asked) a → u.asks ≡ more (length asked') a
  asks_grew a e = subst (λ v. u.asks ≡ more (length v) a) (sym grew) (asks_more asked next a t.asks u.asks e asks)

  -- the source answers
  pub asked_ok : (o : Offer) → HasFewRules o → WhereTold t.zones (λ zones. IsOffer zones next o)
      → (all : List Labels) × BringsToFront next t.kept all × (u.kept ≡ take t.room all)
      → Fetches next t.kept t.fetched u.fetched → AreKept t.kept t.fetched
      → HasAsked limit t u asked asked' next (Ok o)
  asked_ok o few offered keeps fetches are = record {
    serves = record { zones = zones; room = room; lent = lent; later = later; trouble = λ e. cc };
    counts = record {
      once = once_more;
      few = few_more;
      asks = asks_grew;
      kept = λ x k f h. subst (λ v. HasKept t.room k f v u.kept u.fetched) (sym grew)
          (kept_more t.room k f asked t.kept t.fetched h next new u.kept u.fetched keeps fetches are);
      met = λ n e. cc;
    };
    cases = inr grew;
    offered = (grew, few, offered);
    met = λ n e. cc;
  }

  -- the source has trouble
  pub asked_trouble : Rose t.troubles u.troubles → IsTrue u.failed → HasAsked limit t u asked asked' next (Err Trouble)
  asked_trouble rose failed = record {
    serves = record { zones = zones; room = room; lent = lent; later = later; trouble = λ e. (rose, failed) };
    counts = record { once = once_more; few = few_more; asks = asks_grew; kept = λ x k f h. absurd x; met = λ n e. cc };
    cases = inr grew;
    offered = tt;
    met = λ n e. cc;
  }

  -- memory is wanting
  pub asked_memory : HasAsked limit t u asked asked' next (Err Memory)
  asked_memory = record {
    serves = record { zones = zones; room = room; lent = lent; later = later; trouble = λ e. cc };
    counts = record { once = once_more; few = few_more; asks = asks_grew; kept = λ x k f h. absurd x; met = λ n e. cc };
    cases = inr grew;
    offered = tt;
    met = λ n e. cc;
  }
