-- What a walk sees from where it stands.
use Rattle.std.proofs.Common.{◌≡◌, ◌↔◌, ℕ, ◌+◌, ◌<◌, ◌≤◌, ◌⊎◌, List, [], ◌∷◌, ◌++◌, length, take, drop, filter_map, refl, sym, ◌∙◌, ap, subst, inl, inr}
use Rattle.std.specs.Prelude.{Contains, get_or, Option, Some, None, option_to_list}
use Rattle.std.proofs.lemmas.List.{drop_more, take_more}
use Rattle.std.proofs.lemmas.List.Elements.{filter_map-append}
use Rattle.naptr_data.specs.Zones.{Labels}
use Rattle.ddds_walk.specs.Ways.{domains_of}
use Rattle.ddds_walk.specs.declared.frame.Frame.{Frame}
use Rattle.std.proofs.lemmas.List.{map-append, take_all}
use Rattle.ddds_walk.proofs.ElementLemmas.{has_cons, has_tail}

-- a frame that is not at the domain is passed over
pub among_step : (frames : List Frame) (i : ℕ) (f : Frame) (d : Option Labels) → i < length frames → f ≡ get_or frames i f
    → ((f.domain ≡ d) → ⊥)
    → (Contains (domains_of frames) d ↔ Contains (domains_of (drop i frames)) d)
    → (Contains (domains_of frames) d ↔ Contains (domains_of (drop (i + 1) frames)) d)
among_step frames i f d l e n h = (
  (λ k. by (has_cons (domains_of (drop (i + 1) frames)) f.domain d (subst (λ v. Contains (domains_of v) d) front (h.0 k)))),
  (λ k. h.1 (subst (λ v. Contains (domains_of v) d) (sym front) (has_tail (domains_of (drop (i + 1) frames)) f.domain d k))),
)
  where
    front : drop i frames ≡ f ∷ drop (i + 1) frames
    front = subst (λ v. drop i frames ≡ v ∷ drop (i + 1) frames) (sym e) (drop_more frames i f l)

    by : (f.domain ≡ d) ⊎ Contains (domains_of (drop (i + 1) frames)) d → Contains (domains_of (drop (i + 1) frames)) d
    by (inl x) = absurd (n x)
    by (inr k) = k

-- what is there of a list with one option more
pub options_push : (xs : List (Option Labels)) (o : Option Labels) → filter_map (λ d. d) (xs ++ o ∷ []) ≡ filter_map (λ d. d) xs ++ option_to_list o
options_push xs o = filter_map-append (λ (d : Option Labels). d) xs (o ∷ []) ∙ ap (λ v. filter_map (λ (d : Option Labels). d) xs ++ v) (one o)
  where
    one : (o : Option Labels) → filter_map (λ (d : Option Labels). d) (o ∷ []) ≡ option_to_list o
    one None = refl
    one (Some d) = refl

pub domains_step : (frames : List Frame) (i : ℕ) (f : Frame) (old new : List Labels) → i < length frames → f ≡ get_or frames i f
    → old ≡ filter_map (λ d. d) (domains_of (take i frames)) → new ≡ old ++ option_to_list f.domain
    → new ≡ filter_map (λ d. d) (domains_of (take (i + 1) frames))
domains_step frames i f old new l e a b =
    b ∙ ap (λ v. v ++ option_to_list f.domain) a ∙ sym (options_push (domains_of (take i frames)) f.domain)
    ∙ ap (filter_map (λ (d : Option Labels). d)) (sym (map-append (λ (x : Frame). x.domain) (take i frames) (f ∷ [])))
    ∙ ap (λ v. filter_map (λ (d : Option Labels). d) (domains_of v))
    (sym (subst (λ v. take (i + 1) frames ≡ take i frames ++ v ∷ []) (sym e) (take_more frames i f l)))

-- at the end of the frames
pub domains_end : (items frames : List Frame) (i : ℕ) (old new after : List Labels) (top : Option Labels) (last : Labels)
    → items ≡ frames → length items ≤ i → old ≡ filter_map (λ d. d) (domains_of (take i items)) → new ≡ old ++ option_to_list top
    → after ≡ new ++ last ∷ [] → after ≡ filter_map (λ d. d) (domains_of frames ++ top ∷ []) ++ last ∷ []
domains_end items frames i old new after top last same l a b c =
    c ∙ ap (λ v. v ++ last ∷ []) (b ∙ ap (λ v. v ++ option_to_list top) (a ∙ ap (λ v. filter_map (λ (d : Option Labels). d) (domains_of v)) (take_all i items l)
    ∙ ap (λ v. filter_map (λ (d : Option Labels). d) (domains_of v)) same)
    ∙ sym (options_push (domains_of frames) top))
