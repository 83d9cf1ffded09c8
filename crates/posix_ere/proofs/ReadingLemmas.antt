-- The machine accepts exactly the texts of the grammar, each with its tree.
use Rattle.std.proofs.Common.{zero, Some, None, ℕ, suc, ◌≡◌, ◌+◌, ◌<◌, ◌≤◌, List, [], ◌∷◌, ◌++◌, length, length-append}
use Rattle.std.proofs.Common.{take, drop, get_or, get_or-take, replicate, refl, sym, ◌∙◌, ap, subst, arith, inl, inr}
use Rattle.std.proofs.Common.{Result, Ok, Err}
use Rattle.std.specs.Prelude.{IfOk, MatchResult, min}
use Rattle.std.specs.Result.{IsOkAnd, IfErr}
use Rattle.std.proofs.lemmas.List.{take-append-drop, take-append-le, take-take, length-take-le}
use Rattle.std.proofs.Math.ListN.{get_or-append}
use Rattle.std.proofs.Math.Seq.{drop-cons, take-length}
use Rattle.posix_ere.specs.Tree.{Tree}
use Rattle.posix_ere.specs.Parts.{groups, weight}
use Rattle.posix_ere.specs.Grammar.{Reads}
use Rattle.posix_ere.specs.Machine.{State, step, run, after, finish, finish_at, finish_plain, top_of, start, Fair, Stops, Ends}
use Rattle.posix_ere.specs.Answers.{PrefixesClose, IsFaultOf, IsFaultAt}
use Rattle.posix_ere.specs.declared.why.EreFault.{EreFault}
use Rattle.posix_ere.specs.declared.why.EreFault.TheVariants.{Broken, TooHeavy, Memory}
use Rattle.posix_ere.specs.declared.why.Why.{Why}
use Rattle.posix_ere.proofs.RunsLemmas.{run-append, run_on, same_ok, err_not_ok, fair_start, fair_step}
use Rattle.posix_ere.proofs.CompleteLemmas.{Read, runs_expression}
use Rattle.posix_ere.proofs.MeaningLemmas.{accepted, step_why, finish_why}
use Rattle.posix_ere.specs.Reasons.{IsReason}
use Rattle.std.specs.List.{slice_get}
use Rattle.posix_ere.proofs.ClassNamesLemmas.{take_next}
use Rattle.posix_ere.proofs.ClosingLemmas.{can_be_closed}
use Rattle.posix_ere.specs.Places.{CanBeClosed, IsBrokenPlace}

finishes : (s t : State) (e : Tree) → s.stack ≡ [] → s.frames ≡ [] → Read s t e → finish t ≡ Ok (e ∷ [])
unfolding finish
finishes s t e a b r =
    ap (λ m. finish_at m t) r.mode ∙ (ap (finish_plain t) (r.frames ∙ b) ∙ ap Ok (r.end ∙ ap (λ x. e ∷ x) a))

-- each text of the grammar is accepted with its tree
pub complete : (w : List ℕ) (t : Tree) → Reads w t → (s : State) × (run start w ≡ Ok s) × (finish s ≡ Ok (t ∷ []))
complete w t h =
    let r = runs_expression t 0 w start refl refl refl refl h in
    (r.0, r.1, finishes start r.0 t refl refl r.2)

pub same_stack : (a b : List Tree) → ◌≡◌ {A = Result (List Tree) Why} (Ok a) (Ok b) → a ≡ b
same_stack a b e = cc

pub one_tree : (w : List ℕ) (t u : Tree) → Reads w t → Reads w u → t ≡ u
one_tree w t u h k =
    let a = complete w t h in
    let b = complete w u k in
    let s : a.0 ≡ b.0 = same_ok a.0 b.0 (sym a.1 ∙ b.1) in
    ap top_of (same_stack (t ∷ []) (u ∷ []) (sym a.2 ∙ (ap finish s ∙ b.2)))

-- the machine after the first bytes of a text
pub record Going (text : List ℕ) (i : ℕ) (s : State) : Type 0 where
  pub ran : run start (take i text) ≡ Ok s
  pub fair : Fair i s

pub going_none : (text : List ℕ) → Going text 0 start
going_none text = record { ran = refl; fair = fair_start }

pub going_more : (text : List ℕ) (i : ℕ) (b : ℕ) (s t : State) → Going text i s → i < length text → b ≡ get_or text i 0 → step s b ≡ Ok t → Going text (i + 1) t
going_more text i b s t g l e h = record {
  ran = ap (run start) (sym (take_next i text l)) ∙ (run_on start s (take i text) (get_or text i 0 ∷ []) g.ran
      ∙ (ap (λ x. run s (x ∷ [])) (sym e) ∙ ap (λ r. after r (λ t. run t [])) h));
  fair = fair_step i s b t g.fair h;
}

-- a refused byte leaves no tree
stuck : (text : List ℕ) (i : ℕ) (s : State) (why : Why) (t : Tree) → Going text i s → i < length text → step s (get_or text i 0) ≡ Err why → Reads text t → ⊥
stuck text i s why t g l e h =
    let c = complete text t h in
    let a : take i text ++ (get_or text i 0 ∷ drop (suc i) text) ≡ text = ap (λ x. take i text ++ x) (sym (drop-cons text i 0 l)) ∙ take-append-drop i text in
    let b = run_on start s (take i text) (get_or text i 0 ∷ drop (suc i) text) g.ran ∙ ap (λ r. after r (λ t. run t (drop (suc i) text))) e in
    err_not_ok why c.0 (sym b ∙ (ap (run start) a ∙ c.1))

going_again : (text x : List ℕ) (i n : ℕ) (s : State) → Going text i s → i < n → n ≤ length text → Going (take n text ++ x) i s
going_again text x i n s g l m =
    let e = length-take-le n text m in
    let a : take i (take n text ++ x) ≡ take i text = take-append-le i (take n text) x (omega (arith, e)) ∙ take-take i n text (omega arith) in
    record { ran = ap (run start) a ∙ g.ran; fair = g.fair }

same_byte_again : (text x : List ℕ) (i n : ℕ) → i < n → n ≤ length text → get_or (take n text ++ x) i 0 ≡ get_or text i 0
same_byte_again text x i n l m =
    let e = length-take-le n text m in
    let k : i < length (take n text) = omega (arith, e) in
    get_or-append (take n text) x 0 i k ∙ rw get_or-take refl

longer_than : (text x : List ℕ) (i n : ℕ) → i < n → n ≤ length text → i < length (take n text ++ x)
longer_than text x i n l m = omega (arith, length-take-le n text m, length-append (take n text) x)

-- a prefix of a text with a tree can be closed
pub prefix_closes : PrefixesClose
prefix_closes p rest t h =
    let c = complete (p ++ rest) t h in
    go (run start p) refl (sym (run-append start p rest) ∙ c.1)
  where
    go : {s : State} (r : Result State Why) → run start p ≡ r → after r (λ u. run u rest) ≡ Ok s → CanBeClosed p
    go (Ok u) e f = can_be_closed p u e
    go {s} (Err why) e f = absurd (err_not_ok why s f)

-- the byte that is refused is at the broken place
place_stuck : (text : List ℕ) (i : ℕ) (s : State) (why : Why) → Going text i s → i < length text → step s (get_or text i 0) ≡ Err why → IsBrokenPlace text i
place_stuck text i s why g l e = record {
  within = omega arith;
  closes = can_be_closed (take i text) s g.ran;
  longest = λ n m k c. (let x = c.bytes ++ replicate c.depth 41 in
      stuck (take n text ++ x) i s why c.tree (going_again text x i n s g m k) (longer_than text x i n m k)
      (ap (step s) (same_byte_again text x i n m k) ∙ e) c.reads);
}

place_end : (text : List ℕ) (s : State) → run start text ≡ Ok s → IsBrokenPlace text (length text)
place_end text s h = record {
  within = omega arith;
  closes = subst CanBeClosed (sym (take-length text)) (can_be_closed text s h);
  longest = λ n m k c. absurd (omega arith);
}

byte_there : (xs : List ℕ) (i : ℕ) → i < length xs → slice_get xs i ≡ Some (get_or xs i 0)
byte_there [] i h = absurd (omega arith)
byte_there (x ∷ xs) zero h = refl
byte_there (x ∷ xs) (suc i) h = byte_there xs i (omega arith)

none_there : (xs : List ℕ) → slice_get xs (length xs) ≡ None
none_there [] = refl
none_there (x ∷ xs) = none_there xs

pub fault_stuck : (text : List ℕ) (i : ℕ) (s : State) (e : EreFault) → Going text i s → i < length text
    → Stops i e (step s (get_or text i 0)) → IsFaultOf text e
fault_stuck text i s (Broken at why) g l h = (
  λ t r. stuck text i s why t g l h.1 r,
  subst (IsBrokenPlace text) (sym h.0) (place_stuck text i s why g l h.1),
  subst (λ k. IsReason (take k text) (slice_get text k) why) (sym h.0)
      (subst (λ x. IsReason (take i text) x why) (sym (byte_there text i l)) (step_why (take i text) s (get_or text i 0) why g.ran h.1)),
)
fault_stuck text i s (TooHeavy told) g l h = absurd h
fault_stuck text i s Memory g l h = tt

pub exact_stuck : (text : List ℕ) (i : ℕ) (s : State) (e : EreFault) → Going text i s → i < length text → Stops i e (step s (get_or text i 0))
    → (t : Tree) → Reads text t → IsFaultAt t e
exact_stuck text i s (Broken at why) g l h t r = absurd (stuck text i s why t g l h.1 r)
exact_stuck text i s (TooHeavy told) g l h t r = absurd h
exact_stuck text i s Memory g l h t r = inl refl

-- the end of the text
pub all_ran : (text : List ℕ) (i : ℕ) (s : State) → Going text i s → i ≡ length text → run start text ≡ Ok s
all_ran text i s g e = ap (run start) (sym (ap (λ k. take k text) e ∙ take-length text)) ∙ g.ran

pub numbered : (text : List ℕ) (s : State) → run start text ≡ Ok s → IfOk (finish s) (λ stack. s.opened ≡ groups (top_of stack))
numbered text s h = at (finish s) refl
  where
    at : (r : Result (List Tree) Why) → finish s ≡ r → IfOk r (λ stack. s.opened ≡ groups (top_of stack))
    at (Ok stack) e = (accepted text s stack h e).groups_are
    at (Err why) e = tt

tree_there : (text : List ℕ) (s : State) (t : Tree) → run start text ≡ Ok s → Reads text t → finish s ≡ Ok (t ∷ [])
tree_there text s t h r =
    let c = complete text t r in
    ap finish (same_ok s c.0 (sym h ∙ c.1)) ∙ c.2

pub whole_reads : (text : List ℕ) (s : State) (e : Tree) → run start text ≡ Ok s → IsOkAnd (finish s) (λ stack. e ≡ top_of stack) → Reads text e
whole_reads text s e h = at (finish s) refl
  where
    at : (r : Result (List Tree) Why) → finish s ≡ r → IsOkAnd r (λ stack. e ≡ top_of stack) → Reads text e
    at (Ok stack) f k = subst (Reads text) (sym k) (accepted text s stack h f).reads
    at (Err why) f k = absurd k

pub fault_end : (text : List ℕ) (at : ℕ) (s : State) (e : EreFault) → at ≡ length text → run start text ≡ Ok s → Ends at e (finish s) → IsFaultOf text e
fault_end text at s (Broken place why) n h k = (
  λ t r. let x = sym k.1 ∙ tree_there text s t h r in cc,
  subst (IsBrokenPlace text) (sym (k.0 ∙ n)) (place_end text s h),
  subst (λ j. IsReason (take j text) (slice_get text j) why) (sym (k.0 ∙ n))
      (subst (λ x. IsReason (take (length text) text) x why) (sym (none_there text))
      (subst (λ x. IsReason x None why) (sym (take-length text)) (finish_why text s why h k.1))),
)
fault_end text at s (TooHeavy told) n h k = heavy (finish s) refl k
  where
    heavy : (r : Result (List Tree) Why) → finish s ≡ r → IsOkAnd r (λ stack. (512 < weight (top_of stack)) × (told ≡ min (weight (top_of stack)) 1_000_000))
        → IsFaultOf text (TooHeavy told)
    heavy (Ok stack) f k = (top_of stack, (accepted text s stack h f).reads, k.0, k.1)
    heavy (Err why) f k = absurd k
fault_end text at s Memory n h k = tt

pub exact_tree : (text : List ℕ) (s : State) (e : Tree) → run start text ≡ Ok s
    → IsOkAnd (finish s) (λ stack. e ≡ top_of stack) → (t : Tree) → Reads text t → e ≡ t
exact_tree text s e h k t r = one_tree text e t (whole_reads text s e h k) r

pub exact_end : (text : List ℕ) (at : ℕ) (s : State) (e : EreFault) → at ≡ length text → run start text ≡ Ok s
    → Ends at e (finish s) → (t : Tree) → Reads text t → IsFaultAt t e
exact_end text at s (Broken place why) n h k t r = absurd (let x = sym k.1 ∙ tree_there text s t h r in cc)
exact_end text at s (TooHeavy told) n h k t r =
    let x = fault_end text at s (TooHeavy told) n h k in
    let y = one_tree text x.0 t x.1 r in
    inr (subst (λ u. 512 < weight u) y x.2, ap TooHeavy (x.3 ∙ ap (λ u. min (weight u) 1_000_000) y))
exact_end text at s Memory n h k t r = inl refl

pub weak_ok : {X F : Type 0} (r : Result X F) (P Q : X → Type 0) → IfOk r P → ((x : X) → P x → Q x) → IfOk r Q
weak_ok (Ok x) P Q h f = f x h
weak_ok (Err e) P Q h f = tt

pub weak_err : {X F : Type 0} (r : Result X F) (P Q : F → Type 0) → IfErr r P → ((e : F) → P e → Q e) → IfErr r Q
weak_err (Ok x) P Q h f = tt
weak_err (Err e) P Q h f = f e h

pub either_way : {X F : Type 0} (r : Result X F) (P : X → Type 0) (Q : F → Type 0) → IfOk r P → IfErr r Q → MatchResult r P Q
either_way (Ok x) P Q h k = h
either_way (Err e) P Q h k = k
