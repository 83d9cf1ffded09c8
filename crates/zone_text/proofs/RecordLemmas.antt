use Rattle.std.proofs.Common.{◌≡◌, ◌∙◌, ◌⊎◌, ℕ, ◌<◌, ◌≤◌, List, [], ◌∷◌, length, true, refl, sym, ap, inl, inr, subst, arith}
use Rattle.std.specs.Prelude.{IsTrue}
use Rattle.std.proofs.Math.Bool.{Bool-set}
use Rattle.dns_name.specs.Name.{Labels}
use Rattle.dns_wire.specs.Kinds.{internet, kind_of, is_whole, belongs}
use Rattle.dns_wire.specs.declared.content.Content.{Content}
use Rattle.dns_wire.specs.declared.content.Content.TheVariants as content
use Rattle.dns_wire.specs.declared.record.Record as wire
use Rattle.zone_token.specs.Entries.{entries_of}
use Rattle.zone_text.specs.Zone.{most_bytes, beginning_with, advanced, Mean, statements_of, Is, Are, Say, Break, ZoneSays, ZoneBreaks, BreaksSoFar}
use Rattle.zone_text.specs.Meaning.{is_whole_meaning}
use Rattle.zone_text.specs.declared.meaning.Standing.{Standing}
use Rattle.zone_text.specs.declared.meaning.Statement.{Statement}
use Rattle.zone_text.specs.declared.meaning.Meaning.{Meaning}
use Rattle.zone_text.specs.declared.meaning.Meaning.TheVariants.{Nothing, Origin, DefaultTtl, Record}
use Rattle.zone_token.specs.declared.fault.TextWhy.{TextWhy}
use Rattle.zone_text.proofs.RunLemmas.{mean-one, say_or_break}
use Rattle.zone_text.proofs.EntryLemmas.{entries-bytes}
use Rattle.zone_text.proofs.WholeLemmas.{entry_is_whole}

-- whole content belongs to its kind in the class of the internet
belongs-whole : (c : Content) → is_whole c ≡ true → belongs (kind_of c) internet c ≡ true
belongs-whole (content.A address) whole = refl
belongs-whole (content.Ns server) whole = refl
belongs-whole (content.Cname target) whole = refl
belongs-whole (content.Soa start) whole = refl
belongs-whole (content.Ptr name) whole = refl
belongs-whole (content.Mx preference exchange) whole = refl
belongs-whole (content.Txt texts) whole = whole
belongs-whole (content.Aaaa address) whole = refl
belongs-whole (content.Srv priority weight port target) whole = refl
belongs-whole (content.Naptr rule) whole = refl
belongs-whole (content.Opt options) whole = absurd cc
belongs-whole (content.Raw bytes) whole = absurd cc

abbrev made : (owner : Labels) (ttl : ℕ) (c : Content) (of class : ℕ) → IsTrue (belongs of class c) → wire.Record
made owner ttl c of class fits = record { owner = owner; kind = of; class = class; ttl = ttl; content = c; belongs = fits }

-- the record that is stated
record-exists : (said : Statement) → is_whole said.content ≡ true → (one : wire.Record) × Is one said
record-exists said whole =
    let one : wire.Record = record {
      owner = said.owner;
      kind = kind_of said.content;
      class = internet;
      ttl = said.ttl;
      content = said.content;
      belongs = belongs-whole said.content whole;
    } in
    (one, record { owner = refl; kind = refl; class = refl; ttl = refl; content = refl; whole = whole })

records-more : (meaning : Meaning) (meanings : List Meaning) → is_whole_meaning meaning ≡ true
    → ((records : List wire.Record) × Are records (statements_of meanings))
    → (records : List wire.Record) × Are records (statements_of (meaning ∷ meanings))
records-more Nothing meanings whole more = more
records-more (Origin name) meanings whole more = more
records-more (DefaultTtl ttl) meanings whole more = more
records-more (Record said) meanings whole more =
    let first = record-exists said whole in
    (first.0 ∷ more.0, (first.1, more.1))

-- entries with meanings state records
records-exist : (standing : Standing) (entries : List (List ℕ)) (meanings : List Meaning)
    → Mean standing entries meanings → (records : List wire.Record) × Are records (statements_of meanings)
records-exist standing [] [] mean = ([], tt)
records-exist standing [] (meaning ∷ meanings) mean = absurd mean
records-exist standing (entry ∷ entries) [] mean = absurd mean
records-exist standing (entry ∷ entries) (meaning ∷ meanings) mean =
    records-more meaning meanings (entry_is_whole standing entry meaning mean.0) (records-exist (advanced standing meaning) entries meanings mean.1)

-- a text says records or breaks
pub reads_or_breaks : (text : List ℕ) (origin : Labels)
    → ((records : List wire.Record) × ZoneSays text origin records)
    ⊎ ((line : ℕ) × (why : TextWhy) × ZoneBreaks text origin line why)
reads_or_breaks text origin = from (say_or_break origin (entries_of text))
  where
    from : ((statements : List Statement) × Say origin (entries_of text) statements)
        ⊎ ((line : ℕ) × (why : TextWhy) × Break origin (entries_of text) line why)
        → ((records : List wire.Record) × ZoneSays text origin records)
        ⊎ ((line : ℕ) × (why : TextWhy) × ZoneBreaks text origin line why)
    from (inr breaks) = inr breaks
    from (inl says) =
        let say = says.1 in
        let built = records-exist (beginning_with origin) (entries_of text) say.meanings say.mean in
        inl (
          built.0,
          record {
            statements = statements_of say.meanings;
            say = record {
              meanings = say.meanings;
              mean = say.mean;
              stated = refl;
              size = say.size;
              number = subst (λ (ss : List Statement). length ss ≤ 100_000) say.stated say.number;
            };
            records_are = built.1;
          },
        )

-- one record is what is stated
same-fields : (owner : Labels) (ttl : ℕ) (c : Content) (of other class kin : ℕ) (fits : IsTrue (belongs of class c))
    (suits : IsTrue (belongs other kin c)) → of ≡ other → class ≡ kin
    → made owner ttl c of class fits ≡ made owner ttl c other kin suits
same-fields owner ttl c of other class kin fits suits k n =
    let P : ℕ → Type 0 = λ x. (suit : IsTrue (belongs x kin c)) → made owner ttl c of class fits ≡ made owner ttl c x kin suit in
    let Q : ℕ → Type 0 = λ y. (suit : IsTrue (belongs of y c)) → made owner ttl c of class fits ≡ made owner ttl c of y suit in
    subst P k (subst Q n (λ suit. ap (made owner ttl c of class) (Bool-set _ _ fits suit))) suits

same-made : (owner : Labels) (ttl : ℕ) (c : Content) (of class : ℕ) (fits : IsTrue (belongs of class c))
    (name : Labels) (time : ℕ) (d : Content) (other kin : ℕ) (suits : IsTrue (belongs other kin d)) → owner ≡ name
    → ttl ≡ time → c ≡ d → of ≡ other → class ≡ kin → made owner ttl c of class fits ≡ made name time d other kin suits
same-made owner ttl c of class fits name time d other kin suits o t x k n =
    let P : Labels → Type 0 = λ y. made owner ttl c of class fits ≡ made y time d other kin suits in
    let Q : ℕ → Type 0 = λ y. made owner ttl c of class fits ≡ made owner y d other kin suits in
    let R : Content → Type 0 = λ y. (suit : IsTrue (belongs other kin y)) → made owner ttl c of class fits ≡ made owner ttl y other kin suit in
    subst P o (subst Q t (subst R x (λ suit. same-fields owner ttl c of other class kin fits suit k n) suits))

same-record : (one other : wire.Record) (said : Statement) → Is one said → Is other said → one ≡ other
same-record one other said first second =
    same-made one.owner one.ttl one.content one.kind one.class one.belongs other.owner other.ttl other.content other.kind other.class other.belongs
    (first.owner ∙ sym second.owner) (first.ttl ∙ sym second.ttl) (first.content ∙ sym second.content)
    (first.kind ∙ sym second.kind) (first.class ∙ sym second.class)

same-records : (some others : List wire.Record) (statements : List Statement) → Are some statements → Are others statements → some ≡ others
same-records [] [] [] first second = refl
same-records [] [] (said ∷ statements) first second = absurd first
same-records [] (other ∷ others) [] first second = absurd second
same-records [] (other ∷ others) (said ∷ statements) first second = absurd first
same-records (one ∷ some) others [] first second = absurd first
same-records (one ∷ some) [] (said ∷ statements) first second = absurd second
same-records (one ∷ some) (other ∷ others) (said ∷ statements) first second =
    ap (λ x. x ∷ some) (same-record one other said first.0 second.0) ∙ ap (λ xs. other ∷ xs) (same-records some others statements first.1 second.1)

-- a text says one list of records
pub one_list : (text : List ℕ) (origin : Labels) (some others : List wire.Record) → ZoneSays text origin some → ZoneSays text origin others → some ≡ others
one_list text origin some others first second =
    let meanings = mean-one (beginning_with origin) (entries_of text) first.say.meanings second.say.meanings first.say.mean second.say.mean in
    let stated : first.statements ≡ second.statements = first.say.stated ∙ ap statements_of meanings ∙ sym second.say.stated in
    same-records some others second.statements (subst (λ (ss : List Statement). Are some ss) stated first.records_are) second.records_are

-- a text with a byte too many is broken so far
pub too_long : (text : List ℕ) (origin : Labels) → most_bytes < length text → (line : ℕ) × (why : TextWhy) × BreaksSoFar text origin line why
too_long text origin over = from (say_or_break origin (entries_of text))
  where
    from : ((statements : List Statement) × Say origin (entries_of text) statements)
        ⊎ ((line : ℕ) × (why : TextWhy) × Break origin (entries_of text) line why)
        → (line : ℕ) × (why : TextWhy) × BreaksSoFar text origin line why
    from (inl says) = absurd (omega (arith, says.1.size, entries-bytes text, over))
    from (inr breaks) = (breaks.0, breaks.1, inr (omega (arith, over), breaks.2))
