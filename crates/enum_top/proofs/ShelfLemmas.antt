-- A shelf that was read, step by step.
use Rattle.std.proofs.Common.{◌≡◌, inl, inr, ℕ, ◌+◌, ◌≤◌, List, ◌++◌, length, max, Option, Some, None, option_map}
use Rattle.std.proofs.Common.{Result, Err, refl, sym, ap, subst, ◌∙◌, arith}
use Rattle.enum_base.specs.Causes.{Blames, Rose, many_more}
use Rattle.enum_base.specs.Outside.{ShelfState, after}
use Rattle.zone_text.specs.Fed.{Fed}
use Rattle.zone_text.specs.Zone.{most_bytes}
use Rattle.zone_text.specs.declared.fault.TextFault.{TextFault}
use Rattle.enum_top.specs.Handling.{ReadsShelf}
use Rattle.enum_top.specs.Running.{Refuses}
use Rattle.enum_top.specs.declared.objects.Object.{Object}
use Rattle.enum_top.specs.declared.why.Why.{Why}
use Rattle.enum_top.specs.declared.why.Why.TheVariants.{Outside}
use Rattle.enum_top.proofs.DoesLemmas.{unblamed}
use Rattle.enum_top.proofs.FileLemmas.{IsFed}

-- one reading after another, which is blamed on nobody
pub then_reads : (old between new : ShelfState) (Before Blamed : Type 0) → (Before → ⊥) → ReadsShelf old between Before
    → ReadsShelf between new Blamed → ReadsShelf old new Blamed
then_reads old between new Before Blamed calm one next =
    let first = one.given in
    let second = next.given in
    record {
      files = next.files ∙ one.files;
      untold = λ files left. next.untold (one.files ∙ files) (one.untold files left);
      blamed = subst (λ n. Blames n new.faults Blamed) (unblamed old.faults between.faults Before calm one.blamed) next.blamed;
      given = most_twice old.most_given between.most_given new.most_given (most_bytes + 4096) first second;
    }
  where
    most_twice : (a b c k : ℕ) → b ≤ max a k → c ≤ max b k → c ≤ max a k
    most_twice a b c k first second = omega (arith, first, second)

-- a reading of nobody's blame, said by what stays
stays : (count now : ℕ) → now ≡ count → Blames count now ⊥
stays count now is = record { later = omega (arith, is); only = λ none. absurd none; always = λ less. absurd (omega (arith, is, less)) }

-- a file was fetched
pub fetched : (old new : ShelfState) → new.files ≡ old.files → (old.files ≡ None → new.left ≡ None)
    → new.faults ≡ old.faults → new.most_given ≡ old.most_given → ReadsShelf old new ⊥
fetched old new files untold faults most = record {
  files = files;
  untold = λ none left. untold none;
  blamed = stays old.faults new.faults faults;
  given = omega (arith, most);
}

-- .. or is not there, or the call failed
pub fetched_so : (old new : ShelfState) (Blamed : Type 0) → new.files ≡ old.files
    → (old.files ≡ None → new.left ≡ None) → Blames old.faults new.faults Blamed → new.most_given ≡ old.most_given
    → ReadsShelf old new Blamed
fetched_so old new Blamed files untold blamed most = record { files = files; untold = λ none left. untold none; blamed = blamed; given = omega (arith, most) }

left_untold : (old left : Option (List ℕ)) (bytes : List ℕ) → old ≡ option_map (λ rest. bytes ++ rest) left → old ≡ None → left ≡ None
left_untold old None bytes parts none = refl
left_untold old (Some rest) bytes parts none = absurd (cc (sym parts ∙ none))

after_untold : (n : ℕ) (left left' : Option (List ℕ)) → left' ≡ after n left → left ≡ None → left' ≡ None
after_untold n left left' then none = then ∙ ap (after n) none

-- a file was read to here, and then once more
pub read_once_more : (old between new : ShelfState) (fed : Fed) (n : ℕ) (Blamed : Type 0) → (Blamed → ⊥)
    → IsFed old between fed → n ≤ 4096 → new.files ≡ between.files → new.faults ≡ between.faults
    → new.left ≡ after n between.left → new.given ≡ many_more between.given n
    → new.most_given ≡ max between.most_given new.given → ReadsShelf old new Blamed
read_once_more old between new fed n Blamed calm has bound files faults left counts greatest =
    let given = has.given in
    let most = has.most in
    let small = has.small in
    let same : new.faults ≡ old.faults = faults ∙ has.faults in
    record {
      files = files ∙ has.files;
      untold = λ none unread. after_untold n between.left new.left left (left_untold old.left between.left fed.text has.parts unread);
      blamed = record { later = omega (arith, same); only = λ b. absurd (calm b); always = λ less. absurd (omega (arith, same, less)) };
      given = bounded old.most_given between.most_given new.most_given between.given new.given
          (length fed.text) n most_bytes given most small bound counts greatest;
    }
  where
    bounded : (o b m g g' t n k : ℕ) → g ≤ t → b ≤ max o t → t ≤ k → n ≤ 4096 → g' ≡ many_more g n → m ≡ max b g' → m ≤ max o (k + 4096)
    bounded o b m g g' t n k given most small bound counts greatest = omega (arith, given, most, small, bound, counts, greatest)

-- .. or that call failed
pub read_failed : (old between new : ShelfState) (fed : Fed) (Blamed : Type 0) → Blamed → IsFed old between fed
    → new.files ≡ between.files → between.faults ≤ new.faults → Rose between.faults new.faults
    → (between.left ≡ None → new.left ≡ None) → new.most_given ≡ between.most_given → ReadsShelf old new Blamed
read_failed old between new fed Blamed blamed has files later rose untold most =
    let upto = has.most in
    let small = has.small in
    record {
      files = files ∙ has.files;
      untold = λ none unread. untold (left_untold old.left between.left fed.text has.parts unread);
      blamed = subst (λ n. Blames n new.faults Blamed) has.faults (record { later = later; only = λ b. rose; always = λ less. blamed });
      given = bounded old.most_given between.most_given new.most_given (length fed.text) most_bytes upto small most;
    }
  where
    bounded : (o b m t k : ℕ) → b ≤ max o t → t ≤ k → m ≡ b → m ≤ max o (k + 4096)
    bounded o b m t k upto small most = omega (arith, upto, small, most)

-- a text's refusal blames no object

same_why : {A : Type 0} {why other : Why} → ◌≡◌ {A = Result A Why} (Err why) (Err other) → why ≡ other
same_why e = cc e

pub blames_none : {A : Type 0} (place : ℕ) (fault : TextFault) (why : Why) (object : Object)
    → Refuses place fault why → ◌≡◌ {A = Result A Why} (Err why) (Err (Outside object)) → ⊥
blames_none place fault why object (inl is) e = cc (sym is ∙ same_why e)
blames_none place fault why object (inr (known, is)) e = cc (sym is ∙ same_why e)
