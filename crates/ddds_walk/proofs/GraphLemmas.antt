-- Derivations are joined and cut: where they lead, what they pass, and which ends they reach.
use Rattle.std.proofs.Common.{◌≡◌, ℕ, ◌⊎◌, List, [], ◌∷◌, ◌++◌, refl, sym, ◌∙◌, ap, subst, inl, inr}
use Rattle.std.specs.Prelude.{Contains}
use Rattle.std.proofs.lemmas.List.Elements.{Contains-append_right}
use Rattle.ddds_walk.specs.Graph.{Graph, Leads, Passes}
use Rattle.ddds_walk.specs.Ways.{IsGraph, Mark, by_rule, by_domain, EndsAs}
use Rattle.ddds_walk.proofs.ElementLemmas.{has_none, has_cons, has_head, has_tail, has_same}

module _ {V : Type 0} (g : Graph V) where
  pub leads_join : (a b : List ℕ) (k m d : V) → Leads g k a m → Leads g m b d → Leads g k (a ++ b) d
  leads_join [] b k m d h j = subst (λ w. Leads g w b d) (sym h) j
  leads_join (r ∷ a) b k m d (n, s, h) j = (n, s, leads_join a b n m d h j)

  pub leads_to : (a : List ℕ) (k d e : V) → d ≡ e → Leads g k a d → Leads g k a e
  leads_to a k d e p h = subst (λ w. Leads g k a w) p h

  pub leads_from : (a : List ℕ) (k j d : V) → k ≡ j → Leads g k a d → Leads g j a d
  leads_from a k j d p h = subst (λ w. Leads g w a d) p h

  pub leads_by : (a b : List ℕ) (k d : V) → a ≡ b → Leads g k a d → Leads g k b d
  leads_by a b k d p h = subst (λ w. Leads g k w d) p h

  pub ends_join : (a b : List ℕ) (k m : V) (e : Mark V) → Leads g k a m → EndsAs g m b e → EndsAs g k (a ++ b) e
  ends_join [] b k m e h j = subst (λ w. EndsAs g w b e) (sym h) j
  ends_join (r ∷ a) b k m e (n, s, h) j = inr (n, s, ends_join a b n m e h j)

  pub ends_by : (a b : List ℕ) (k : V) (e : Mark V) → a ≡ b → EndsAs g k a e → EndsAs g k b e
  ends_by a b k e p h = subst (λ w. EndsAs g k w e) p h

  pub ends_marked : (a : List ℕ) (k : V) (d e : Mark V) → d ≡ e → EndsAs g k a d → EndsAs g k a e
  ends_marked a k d e p h = subst (λ w. EndsAs g k a w) p h

  -- the end of a rule's mark is reached by that rule's edge, after a derivation to its domain
  pub ends_by_rule : (qs : List ℕ) (k t : V) (n : ℕ) → EndsAs g k qs (by_rule t n)
      → (p : List ℕ) × (qs ≡ p ++ n ∷ []) × Leads g k p t × g.Stops t n
  ends_by_rule [] k t n (o, e) = cc
  ends_by_rule (r ∷ rs) k t n (inl (s, e, f)) =
      let a : t ≡ k = cc in
      let b : n ≡ r = cc in
      let c : r ∷ rs ≡ n ∷ [] = cc in
      let P : V → ℕ → Type 0 = λ v w. g.Stops v w in
      ([], c, sym a, subst (λ v. P v n) (sym a) (subst (λ w. P k w) (sym b) s))
  ends_by_rule (r ∷ rs) k t n (inr (m, s, h)) = more (ends_by_rule rs m t n h)
    where
      more : (p : List ℕ) × (rs ≡ p ++ n ∷ []) × Leads g m p t × g.Stops t n
          → (p : List ℕ) × (r ∷ rs ≡ p ++ n ∷ []) × Leads g k p t × g.Stops t n
      more (p, e, l, x) = (r ∷ p, ap (λ w. r ∷ w) e, (m, s, l), x)

  pub ends_by_domain : (qs : List ℕ) (k t : V) → EndsAs g k qs (by_domain t) → Leads g k qs t × g.Open t
  ends_by_domain [] k t (o, e) = let a : t ≡ k = cc in (sym a, subst (λ w. g.Open w) (sym a) o)
  ends_by_domain (r ∷ rs) k t (inl (s, e, f)) = cc
  ends_by_domain (r ∷ rs) k t (inr (m, s, h)) = let j = ends_by_domain rs m t h in ((m, s, j.0), j.1)

module _ {V : Type 0} (g : Graph V) (laws : IsGraph g) where
  pub leads_one : (rs : List ℕ) (k a b : V) → Leads g k rs a → Leads g k rs b → a ≡ b
  leads_one [] k a b h j = sym h ∙ j
  leads_one (r ∷ rs) k a b (m, s, h) (n, t, j) =
      leads_one rs n a b (leads_from g rs m n a (laws.one k r m n s t) h) j

  pub leads_rest : (a b : List ℕ) (k m d : V) → Leads g k (a ++ b) d → Leads g k a m → Leads g m b d
  leads_rest [] b k m d h j = leads_from g b k m d j h
  leads_rest (r ∷ a) b k m d (n, s, h) (i, t, j) =
      leads_rest a b i m d (leads_from g (a ++ b) n i d (laws.one k r n i s t) h) j

  pub ends_rest : (a b : List ℕ) (k m : V) (e : Mark V) → EndsAs g k (a ++ b) e → Leads g k a m → EndsAs g m b e
  ends_rest [] b k m e h j = subst (λ w. EndsAs g w b e) j h
  ends_rest (r ∷ a) b k m e (inl (s, f, x)) (i, t, j) = absurd (laws.either k r i t s)
  ends_rest (r ∷ a) b k m e (inr (n, s, h)) (i, t, j) =
      ends_rest a b i m e (subst (λ w. EndsAs g w (a ++ b) e) (laws.one k r n i s t) h) j

  pub passes_one : (rs : List ℕ) (k : V) (ds es : List V) → Passes g k rs ds → Passes g k rs es → ds ≡ es
  passes_one [] k ds es h j = h ∙ sym j
  passes_one (r ∷ rs) k ds es (m, ms, s, h, e) (n, ns, t, j, f) =
      let p : Passes g n rs ms = subst (λ w. Passes g w rs ms) (laws.one k r m n s t) h in
      e ∙ ap (λ w. k ∷ w) (passes_one rs n ms ns p j) ∙ sym f

  pub passes_push : (p : List ℕ) (k m x : V) (n : ℕ) (ds : List V)
      → Passes g k p ds → Leads g k p m → g.Steps m n x → Passes g k (p ++ n ∷ []) (ds ++ m ∷ [])
  passes_push [] k m x n ds p h s =
      let e : ds ++ m ∷ [] ≡ k ∷ [] = ap (λ w. w ++ m ∷ []) p ∙ ap (λ w. w ∷ []) (sym h) in
      (x, [], subst (λ w. g.Steps w n x) (sym h) s, refl, e)
  passes_push (r ∷ p) k m x n ds (j, rest, t, q, e) (i, u, h) s =
      let l : Leads g j p m = leads_from g p i j m (laws.one k r i j u t) h in
      (j, rest ++ m ∷ [], t, passes_push p j m x n rest q l s, ap (λ w. w ++ m ∷ []) e)

  -- a domain that a derivation comes through is passed, or it is the last one
  pub passes_has : (a c : List ℕ) (k d t : V) (ds : List V)
      → Leads g k a d → Leads g d c t → Passes g k (a ++ c) ds → Contains (ds ++ t ∷ []) d
  passes_has [] [] k d t ds h j p =
      has_same (ds ++ t ∷ []) t d (sym j) (Contains-append_right ds (t ∷ []) t (has_head [] t))
  passes_has [] (r ∷ c) k d t ds h j (m, rest, s, q, e) =
      has_same (ds ++ t ∷ []) k d h
      (subst (λ w. Contains (w ++ t ∷ []) k) (sym e) (has_head (rest ++ t ∷ []) k))
  passes_has (r ∷ a) c k d t ds (n, u, h) j (m, rest, s, q, e) =
      let l : Leads g m a d = leads_from g a n m d (laws.one k r n m u s) h in
      subst (λ w. Contains (w ++ t ∷ []) d) (sym e)
      (has_tail (rest ++ t ∷ []) k d (passes_has a c m d t rest l j q))

  -- a derivation is cut at each domain that it passes
  pub passes_at : (ls : List ℕ) (k x : V) (ds : List V) → Passes g k ls ds → Contains ds x
      → (a : List ℕ) × (r : ℕ) × (b : List ℕ) × (ls ≡ a ++ r ∷ b) × Leads g k a x
  passes_at [] k x ds q i = absurd (has_none x (subst (λ w. Contains w x) q i))
  passes_at (r ∷ ls) k x ds (n, rest, s, q, e) i =
      by (λ j. passes_at ls n x rest q j) (has_cons rest k x (subst (λ w. Contains w x) e i))
    where
      more : (a : List ℕ) × (t : ℕ) × (b : List ℕ) × (ls ≡ a ++ t ∷ b) × Leads g n a x
          → (a : List ℕ) × (t : ℕ) × (b : List ℕ) × (r ∷ ls ≡ a ++ t ∷ b) × Leads g k a x
      more (a, t, b, f, l) = (r ∷ a, t, b, ap (λ w. r ∷ w) f, (n, s, l))

      by : (Contains rest x → (a : List ℕ) × (t : ℕ) × (b : List ℕ) × (ls ≡ a ++ t ∷ b) × Leads g n a x)
          → (k ≡ x) ⊎ Contains rest x
          → (a : List ℕ) × (t : ℕ) × (b : List ℕ) × (r ∷ ls ≡ a ++ t ∷ b) × Leads g k a x
      by f (inl h) = ([], r, ls, refl, h)
      by f (inr j) = more (f j)

  -- what is left of a derivation to a domain that it passed leads round to it
  pub passes_cut : (ls : List ℕ) (k d : V) (ds : List V)
      → Passes g k ls ds → Leads g k ls d → Contains ds d
      → (a : List ℕ) × (r : ℕ) × (b : List ℕ) × (ls ≡ a ++ r ∷ b) × Leads g k a d × Leads g d (r ∷ b) d
  passes_cut ls k d ds q l i =
      let (a, r, b, e, h) = passes_at ls k d ds q i in
      (a, r, b, e, h, leads_rest a (r ∷ b) k d d (leads_by g ls (a ++ r ∷ b) k d e l) h)
