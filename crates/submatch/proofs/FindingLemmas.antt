-- The greatest parse from a start, and the best match.
use Rattle.std.proofs.Common.{◌≡◌, ℕ, ◌+◌, ◌<◌, ◌≤◌, ◌⊎◌, inl, inr, refl, sym, ◌∙◌, subst, arith, Bool, List, length}
use Rattle.std.proofs.Common.{Option, Some, None, replicate, IsNone, ◌↔◌, IfSome}
use Rattle.posix_ere.specs.Tree.{Tree}
use Rattle.submatch.specs.Parses.{Parses, no_more, next, IsParse}
use Rattle.submatch.specs.Greater.{IsAtLeast, IsGreatestParse}
use Rattle.submatch.specs.Groups.{MatchSpans, groups_of, nine_spans, with_groups}
use Rattle.submatch.specs.Best.{IsMatch, HasNoMatch, IsBestMatch, AreBestSpans, IsBestSpan, AreBestGroups, IsGreatestFrom, IsBestOf, TellsBest}
use Rattle.submatch.specs.Ends.{Reaches, IsLongest, TellsLongest}
use Rattle.submatch.proofs.OrderLemmas.{at_least_next}
use Rattle.submatch.proofs.OutcomesLemmas.{Chosen, chosen, no_choice, part_chosen}
use Rattle.submatch.proofs.NineSpansLemmas.{with_all}

module _ (fold : Bool) (w : List ℕ) (t : Tree) (i : ℕ) where
  -- with no end there is no match
  pub no_match : TellsLongest (Reaches (IsParse fold w t) i) None → HasNoMatch fold w t i
  no_match never no_more h = h
  no_match never (next k d b rest) h = never k ((d, b, h.0))

  compare : (k e : ℕ) → k ≤ e → (k < e) ⊎ (k ≡ e)
  compare k e h = grind arith

  -- the greatest parse up to the longest end is the greatest of all
  longest_is_greatest : (e c : ℕ) (a : Parses) → IsLongest (Reaches (IsParse fold w t) i) e → IsGreatestParse (IsParse fold w t i e) c a →
      (qs : Parses) → IsMatch fold w t i qs → IsAtLeast (next e c a no_more) qs
  longest_is_greatest e c a longest g no_more h = absurd h
  longest_is_greatest e c a longest g (next k d b rest) h = elim (compare k e (longest.most k ((d, b, h.0)))) [
    | inl less ↦ inr (inl less)
    | inr same ↦ subst (λ x. IsAtLeast (next e c a no_more) (next x d b rest)) (sym same)
        (at_least_next e c d a b no_more rest (g.most d b (subst (λ x. IsParse fold w t i x d b) same h.0)) (inl (sym h.1)))
  ]

  greatest_of : (e : ℕ) (spans : MatchSpans) → IsLongest (Reaches (IsParse fold w t) i) e → spans.whole ≡ record { from = i; to = e } →
      ((c : ℕ) (a : Parses) → IsGreatestParse (IsParse fold w t i e) c a → spans.groups ≡ with_groups (replicate 9 None) (groups_of t i e c a)) →
      Chosen (IsParse fold w t i e) → IsGreatestFrom fold w t i spans
  greatest_of e spans longest whole groups (chosen c a g) = record {
    to = e;
    choice = c;
    inside = a;
    greatest = record { holds = (g.holds, refl); most = longest_is_greatest e c a longest g };
    whole = whole;
    groups = groups c a g ∙ with_all (groups_of t i e c a);
  }
  greatest_of e spans longest whole groups (no_choice never) =
      let h = longest.holds in absurd (never h.0 h.1 h.2)

  pub greatest_from : (e : ℕ) (spans : MatchSpans) → i ≤ length w → IsLongest (Reaches (IsParse fold w t) i) e → spans.whole ≡ record { from = i; to = e } →
      ((c : ℕ) (a : Parses) → IsGreatestParse (IsParse fold w t i e) c a → spans.groups ≡ with_groups (replicate 9 None) (groups_of t i e c a)) →
      IsGreatestFrom fold w t i spans
  greatest_from e spans within longest whole groups = greatest_of e spans longest whole groups (part_chosen fold w t i e within)

module _ (fold : Bool) (w : List ℕ) (t : Tree) where
  best_match : (spans : MatchSpans) (b : IsBestOf fold w t spans) → IsBestMatch fold w t b.start b.greatest.to b.greatest.choice b.greatest.inside
  best_match spans b = record { within = b.within; least = b.least; greatest = b.greatest.greatest }

  pub none_told : (found : Option MatchSpans) → TellsBest fold w t found → IsNone found ↔ ((i : ℕ) → i ≤ length w → HasNoMatch fold w t i)
  none_told None never = ((λ e. never), (λ h. refl))
  none_told (Some spans) b = (
    (λ e. cc e),
    (λ never. absurd (never b.start b.within
        (next b.greatest.to b.greatest.choice b.greatest.inside no_more) b.greatest.greatest.holds)),
  )

  pub whole_told : (found : Option MatchSpans) → TellsBest fold w t found → IfSome found (λ spans. IsBestSpan fold w t spans.whole)
  whole_told None never = tt
  whole_told (Some spans) b = subst (λ s. IsBestSpan fold w t s) (sym b.greatest.whole)
      (b.greatest.choice, b.greatest.inside, best_match spans b)

  pub groups_told : (found : Option MatchSpans) → TellsBest fold w t found → IfSome found (λ spans. AreBestGroups fold w t spans.groups)
  groups_told None never = tt
  groups_told (Some spans) b = (b.start, b.greatest.to, b.greatest.choice, b.greatest.inside, best_match spans b, b.greatest.groups)

  pub one_told : (found : Option MatchSpans) → TellsBest fold w t found → IfSome found (λ spans. AreBestSpans fold w t spans)
  one_told None never = tt
  one_told (Some spans) b = record {
    choice = b.greatest.choice;
    inside = b.greatest.inside;
    best = subst (λ s. IsBestMatch fold w t s.from s.to b.greatest.choice b.greatest.inside) (sym b.greatest.whole) (best_match spans b);
    groups = subst (λ s. spans.groups ≡ nine_spans (groups_of t s.from s.to b.greatest.choice b.greatest.inside))
        (sym b.greatest.whole) b.greatest.groups;
  }

  pub best_of : (i : ℕ) (spans : MatchSpans) → i ≤ length w → ((k : ℕ) → k < i → HasNoMatch fold w t k)
      → IsGreatestFrom fold w t i spans → IsBestOf fold w t spans
  best_of i spans within least g = record { start = i; within = within; least = least; greatest = g }

pub none_below_more : (fold : Bool) (w : List ℕ) (t : Tree) (i : ℕ) → ((k : ℕ) → k < i → HasNoMatch fold w t k) → HasNoMatch fold w t i →
    (k : ℕ) → k < i + 1 → HasNoMatch fold w t k
none_below_more fold w t i before here k less = elim (before_or_at k i less) [
  | inl earlier ↦ before k earlier
  | inr same ↦ subst (λ x. HasNoMatch fold w t x) (sym same) here
]
  where
    before_or_at : (k i : ℕ) → k < i + 1 → (k < i) ⊎ (k ≡ i)
    before_or_at k i h = grind arith
