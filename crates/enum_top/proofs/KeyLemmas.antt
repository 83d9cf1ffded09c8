-- Domains that are made one after another.
use Rattle.std.proofs.Common.{◌≡◌, ℕ, suc, ◌+◌, ◌<◌, ◌≤◌, List, [], ◌∷◌, ◌++◌, length, map, drop, get_or, Option}
use Rattle.std.proofs.Common.{Result, Ok, Err, refl, sym, ap, subst, ◌∙◌, append_assoc, arith}
use Rattle.std.proofs.Math.Seq.{drop-cons}
use Rattle.std.proofs.lemmas.Grind.{common_steps}
use Rattle.std.proofs.lemmas.List.{append-nil, length-map}
use Rattle.dns_name.specs.declared.fault.NameFault.{NameFault}
use Rattle.enum_app.specs.Number.{digits_of, e164_arpa}
use Rattle.enum_base.specs.Stages.Then.{goes, stops}
use Rattle.naptr_data.specs.Zones.{Labels}
use Rattle.request_words.specs.Words.{text_at}
use Rattle.request_words.specs.declared.request.AppName.{AppName}
use Rattle.request_words.specs.declared.request.AppName.TheVariants.{Enum, Snaptr, Unaptr}
use Rattle.snaptr_app.specs.Domain.{key_of}
use Rattle.enum_top.specs.Applications.{Asks, Inquiry, Keys, after, apex_of, apexes_of, as_apexes, domain_key, every, under}

-- values before others
abbrev pub before : {A F : Type 0} → List A → Result (List A) F → Result (List A) F
before xs (Ok ys) = Ok (xs ++ ys)
before xs (Err fault) = Err fault

before_none : {A F : Type 0} (r : Result (List A) F) → before [] r ≡ r
before_none (Ok ys) = refl
before_none (Err fault) = refl

before_more : {A F : Type 0} (xs : List A) (x : A) (r : Result (List A) F) → before (xs ++ x ∷ []) r ≡ before xs (after x r)
before_more xs x (Ok ys) = ap Ok (append_assoc xs (x ∷ []) ys)
before_more xs x (Err fault) = refl

module _ {X A F : Type 0} (f : X → Result A F) where
  -- what was made, and what is left to be made, are all
  pub record IsMade (items left : List X) (made : List A) : Type 0 where
    pub all : before made (every (map f left)) ≡ every (map f items)

  pub none_made : (items : List X) (made : List A) → made ≡ [] → IsMade items items made
  none_made items made is = record { all = ap (λ m. before m (every (map f items))) is ∙ before_none (every (map f items)) }

  next_item : (items : List X) (i : ℕ) (d : X) → i < length items → drop i items ≡ get_or items i d ∷ drop (i + 1) items
  next_item items i d below =
      let one : i + 1 ≡ suc i = omega arith in drop-cons items i d below ∙ ap (λ n. get_or items i d ∷ drop n items) (sym one)

  -- one more was made
  pub one_made : (items : List X) (i : ℕ) (d : X) (made more : List A) (value : A) → i < length items
      → f (get_or items i d) ≡ Ok value → more ≡ made ++ value ∷ []
      → IsMade items (drop i items) made → IsMade items (drop (i + 1) items) more
  one_made items i d made more value below is grown h = record {
    all = ap (λ m. before m (every (map f (drop (i + 1) items)))) grown
        ∙ before_more made value (every (map f (drop (i + 1) items)))
        ∙ ap (λ (r : Result A F). before made (first r)) (sym is)
        ∙ ap (λ (xs : List X). before made (every (map f xs))) (sym (next_item items i d below)) ∙ h.all;
  }
    where
      first : Result A F → Result (List A) F
      first r = every (r ∷ map f (drop (i + 1) items))

  -- the next one has a fault
  pub one_unmade : (items : List X) (i : ℕ) (d : X) (made : List A) (fault : F) → i < length items
      → f (get_or items i d) ≡ Err fault → IsMade items (drop i items) made → Err fault ≡ every (map f items)
  one_unmade items i d made fault below is h =
      ap (λ (r : Result A F). before made (first r)) (sym is)
      ∙ ap (λ (xs : List X). before made (every (map f xs))) (sym (next_item items i d below)) ∙ h.all
    where
      first : Result A F → Result (List A) F
      first r = every (r ∷ map f (drop (i + 1) items))

  -- all were made
  pub all_made : (items : List X) (i : ℕ) (made : List A) → length items ≤ i → IsMade items (drop i items) made → Ok made ≡ every (map f items)
  all_made items i made end h =
      ap Ok (sym (append-nil made)) ∙ ap (λ (xs : List X). before made (every (map f xs))) (sym (drop-all items i end)) ∙ h.all
    where
      drop-all : (xs : List X) (k : ℕ) → length xs ≤ k → drop k xs ≡ []
      drop-all xs k le = grind (arith, common_steps)

-- names at places are those of the texts there
pub named : (words : List (List ℕ)) (places : List ℕ)
    → map (λ place. apex_of (text_at words place)) places ≡ map apex_of (map (text_at words) places)
named words [] = refl
named words (place ∷ places) = ap (λ rs. apex_of (text_at words place) ∷ rs) (named words places)

-- there is a key

every_length : {A F : Type 0} (rs : List (Result A F)) (values : List A) → Ok values ≡ every rs → length values ≡ length rs
every_length [] values is = let same : values ≡ [] = cc is in ap length same
every_length (Err fault ∷ rs) values is = absurd (cc is)
every_length {A} {F} (Ok value ∷ rs) values is = by (every rs) (λ more e. every_length rs more e) refl is
  where
    by : (r : Result (List A) F) → ((more : List A) → Ok more ≡ every rs → length more ≡ length rs)
        → every rs ≡ r → Ok values ≡ after value r → length values ≡ suc (length rs)
    by (Err fault) each e h = absurd (cc h)
    by (Ok more) each e h = let same : values ≡ value ∷ more = cc h in ap length same ∙ ap suc (each more (sym e))

some_apexes : (texts : List (List ℕ)) (tops : List Labels) → Ok tops ≡ as_apexes (apexes_of texts) → 1 ≤ length tops
some_apexes texts tops is = by (apexes_of texts) refl is
  where
    some : (ts : List (List ℕ)) (ls : List Labels) → Ok ls ≡ apexes_of ts → 1 ≤ length ls
    some [] ls e = let same : ls ≡ e164_arpa ∷ [] = cc e in let one = ap length same in omega (arith, one)
    some (t ∷ ts) ls e = let count = every_length (map apex_of (t ∷ ts)) ls e in omega (arith, count)

    by : (r : Result (List Labels) NameFault) → apexes_of texts ≡ r → Ok tops ≡ as_apexes r → 1 ≤ length tops
    by (Ok ls) e h = let same : ls ≡ tops = cc h in some texts tops (ap Ok (sym same) ∙ sym e)
    by (Err fault) e h = absurd (cc h)

one_of : (read : Result Labels NameFault) (keys : List Labels) → Ok keys ≡ domain_key read → 1 ≤ length keys
one_of (Ok labels) keys is = let same : keys ≡ labels ∷ [] = cc is in let one = ap length same in omega (arith, one)
one_of (Err fault) keys is = absurd (cc is)

some_of : (app : AppName) (text : List ℕ) (apexes : List (List ℕ)) (keys : List Labels) → Keys app text apexes (Ok keys) → 1 ≤ length keys
some_of Enum text apexes keys (goes tops read is) =
    let some = some_apexes apexes tops read in
    let count = every_length (map (under (digits_of text)) tops) keys is ∙ length-map tops (under (digits_of text)) in
    omega (arith, some, count)
some_of Enum text apexes keys (stops cause stopped is) = absurd (cc is)
some_of Snaptr text apexes keys is = one_of (key_of text) keys is
some_of Unaptr text apexes keys is = one_of (key_of text) keys is

pub some_keys : (words : List (List ℕ)) (app : AppName) (string : ℕ) (want : Option ℕ) (apexes : List ℕ) (asked : Inquiry)
    → Asks words app string want apexes (Ok asked) → 1 ≤ length asked.keys
some_keys words app string want apexes asked (goes original read (goes wanted fits (goes keys known is))) =
    let same : asked ≡ record { string = original; want = wanted; keys = keys } = cc is in
    subst (λ (n : ℕ). 1 ≤ n) (sym (ap (λ (a : Inquiry). length a.keys) same)) (some_of app _ _ keys known)
some_keys words app string want apexes asked (goes original read (goes wanted fits (stops cause stopped is))) = absurd (cc is)
some_keys words app string want apexes asked (goes original read (stops cause stopped is)) = absurd (cc is)
some_keys words app string want apexes asked (stops cause stopped is) = absurd (cc is)
