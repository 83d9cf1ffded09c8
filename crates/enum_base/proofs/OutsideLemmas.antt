use Rattle.std.proofs.Common.{◌≡◌, ℕ, ◌+◌, List, [], ◌++◌, Option, Some, None, refl, ap}
use Rattle.std.proofs.lemmas.List.{append_assoc, append-nil, drop-drop}
use Rattle.enum_base.specs.Outside.{WhereTold, after, with_more}

-- nothing more leaves what was held
pub with_more-nil : (held : Option (List ℕ)) → with_more held [] ≡ held
with_more-nil None = refl
with_more-nil (Some bytes) = ap Some (append-nil bytes)

-- two pieces after each other are one
pub with_more-twice : (held : Option (List ℕ)) (first second : List ℕ) → with_more (with_more held first) second ≡ with_more held (first ++ second)
with_more-twice None first second = refl
with_more-twice (Some bytes) first second = ap Some (append_assoc bytes first second)

-- two reads after each other are one
pub after-twice : (n m : ℕ) (left : Option (List ℕ)) → after m (after n left) ≡ after (n + m) left
after-twice n m None = refl
after-twice n m (Some bytes) = ap Some (drop-drop m n bytes)

-- what follows from a fact of what is told is one too
pub WhereTold-map : {A : Type 0} (told : Option A) (P Q : A → Type 0) → ((x : A) → P x → Q x) → WhereTold told P → WhereTold told Q
WhereTold-map None P Q f h = tt
WhereTold-map (Some x) P Q f h = f x h

-- .. of two facts
pub WhereTold-both : {A : Type 0} (told : Option A) (P Q R : A → Type 0) → ((x : A) → P x → Q x → R x) → WhereTold told P → WhereTold told Q → WhereTold told R
WhereTold-both None P Q R f h k = tt
WhereTold-both (Some x) P Q R f h k = f x h k

-- .. and of none
pub WhereTold-all : {A : Type 0} (told : Option A) (P : A → Type 0) → ((x : A) → P x) → WhereTold told P
WhereTold-all None P f = tt
WhereTold-all (Some x) P f = f x
