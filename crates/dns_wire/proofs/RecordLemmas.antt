-- Records in messages: their content belongs to their kind and class.
use Rattle.std.proofs.Common.{◌≡◌, ℕ, ◌+◌, ◌-◌, ◌≤◌, ◌==◌, ◌&&◌, ◌||◌, not, nat_le, nat_lt, if◌then◌else◌, Bool, true}
use Rattle.std.proofs.Common.{false, IsTrue, List, length, drop, Result, Ok, Err, refl, sym, ◌∙◌, ap, subst, inl, inr}
use Rattle.std.proofs.Common.{arith}
use Rattle.std.proofs.lemmas.Bool.{lt-ltb, le-leb}
use Rattle.std.proofs.lemmas.List.{length-take}
use Rattle.std.specs.Result.{IsErrAnd}
use Rattle.enum_base.specs.Stages.Then.{goes, stops}
use Rattle.rdata_field.specs.Fields.{NameIn, AddressIn}
use Rattle.naptr_rule.specs.Fields.{RuleIn}
use Rattle.dns_wire.specs.Kinds.{internet, a, ns, cname, soa, ptr, mx, txt, aaaa, srv, naptr, opt, is_read, belongs}
use Rattle.dns_wire.specs.Forms.{internet_form, form_of}
use Rattle.dns_wire.specs.Contents.{SoaIn, LastIn, TextsIn, ContentIn, bytes_between}
use Rattle.dns_wire.specs.DecodeFaults.{of_rdata}
use Rattle.dns_wire.specs.Message.{U16At, U32At, NameRead, LengthAt, RecordAt}
use Rattle.dns_wire.specs.Outcome.{ToldAs, OrMemory}
use Rattle.dns_wire.specs.declared.content.Content.{Content}
use Rattle.dns_wire.specs.declared.content.Content.TheVariants as content
use Rattle.dns_wire.specs.declared.form.Form.{Form}
use Rattle.dns_wire.specs.declared.form.Form.TheVariants as form
use Rattle.dns_wire.specs.declared.record.Record.{Record}
use Rattle.dns_wire.specs.declared.decode_fault.DecodeFault.{DecodeFault}
use Rattle.dns_wire.specs.declared.decode_fault.DecodeFault.TheVariants.{Memory}
use Rattle.dns_wire.proofs.StepLemmas.{made_value, told_value}

-- the kinds and classes of a form
abbrev pub Fits : ℕ → ℕ → Form → Type 0
Fits kind class form.A = IsTrue (kind == a && class == internet)
Fits kind class form.Ns = IsTrue (kind == ns && class == internet)
Fits kind class form.Cname = IsTrue (kind == cname && class == internet)
Fits kind class form.Soa = IsTrue (kind == soa && class == internet)
Fits kind class form.Ptr = IsTrue (kind == ptr && class == internet)
Fits kind class form.Mx = IsTrue (kind == mx && class == internet)
Fits kind class form.Txt = IsTrue (kind == txt && class == internet)
Fits kind class form.Aaaa = IsTrue (kind == aaaa && class == internet)
Fits kind class form.Srv = IsTrue (kind == srv && class == internet)
Fits kind class form.Naptr = IsTrue (kind == naptr && class == internet)
Fits kind class form.Opt = IsTrue (kind == opt)
Fits kind class form.Raw = IsTrue (not (kind == opt) && not (class == internet && is_read kind))

choose : {A : Type 0} (P : A → Type 0) (one other : A) (t : Bool) → (IsTrue t → P one) → (IsTrue (not t) → P other) → P (if t then one else other)
choose P one other true first second = first refl
choose P one other false first second = second refl

both : (s t : Bool) → IsTrue s → IsTrue t → IsTrue (s && t)
both true t h k = k
both false t h k = absurd cc

neither : (s t : Bool) → IsTrue (not s) → IsTrue (not t) → IsTrue (not (s || t))
neither false false h k = refl
neither false true h k = absurd cc
neither true t h k = absurd cc

not_both : (s t : Bool) → IsTrue (not t) → IsTrue (not (s && t))
not_both true false h = refl
not_both false false h = refl
not_both s true h = absurd cc

not_first : (s t : Bool) → IsTrue (not s) → IsTrue (not (s && t))
not_first false t h = refl
not_first true t h = absurd cc

pub form_fits : (kind class : ℕ) → Fits kind class (form_of kind class)
form_fits kind class =
    choose P form.Opt (if class == internet then internet_form kind else form.Raw) (kind == opt) (λ h. h) (λ other.
    choose P (internet_form kind) form.Raw (class == internet) (λ in_class. read other in_class)
    (λ no. both (not (kind == opt)) (not (class == internet && is_read kind)) other
    (not_first (class == internet) (is_read kind) no)))
  where
    P : Form → Type 0
    P = Fits kind class

    read : IsTrue (not (kind == opt)) → IsTrue (class == internet) → Fits kind class (internet_form kind)
    read other here =
        choose P form.A _ (kind == a) (λ h. both (kind == a) (class == internet) h here) (λ n1.
        choose P form.Ns _ (kind == ns) (λ h. both (kind == ns) (class == internet) h here) (λ n2.
        choose P form.Cname _ (kind == cname) (λ h. both (kind == cname) (class == internet) h here) (λ n3.
        choose P form.Soa _ (kind == soa) (λ h. both (kind == soa) (class == internet) h here) (λ n4.
        choose P form.Ptr _ (kind == ptr) (λ h. both (kind == ptr) (class == internet) h here) (λ n5.
        choose P form.Mx _ (kind == mx) (λ h. both (kind == mx) (class == internet) h here) (λ n6.
        choose P form.Txt _ (kind == txt) (λ h. both (kind == txt) (class == internet) h here) (λ n7.
        choose P form.Aaaa _ (kind == aaaa) (λ h. both (kind == aaaa) (class == internet) h here) (λ n8.
        choose P form.Srv _ (kind == srv) (λ h. both (kind == srv) (class == internet) h here) (λ n9.
        choose P form.Naptr form.Raw (kind == naptr) (λ h. both (kind == naptr) (class == internet) h here) (λ n10.
        both (not (kind == opt)) (not (class == internet && is_read kind)) other
        (not_both (class == internet) (is_read kind) (unread n1 n2 n3 n4 n5 n6 n7 n8 n9 n10))))))))))))
      where
        unread : IsTrue (not (kind == a)) → IsTrue (not (kind == ns)) → IsTrue (not (kind == cname))
            → IsTrue (not (kind == soa)) → IsTrue (not (kind == ptr)) → IsTrue (not (kind == mx))
            → IsTrue (not (kind == txt)) → IsTrue (not (kind == aaaa)) → IsTrue (not (kind == srv))
            → IsTrue (not (kind == naptr)) → IsTrue (not (is_read kind))
        unread n1 n2 n3 n4 n5 n6 n7 n8 n9 n10 =
            neither _ (kind == naptr)
            (neither _ (kind == srv)
            (neither _ (kind == aaaa)
            (neither _ (kind == txt)
            (neither _ (kind == mx)
            (neither _ (kind == ptr)
            (neither _ (kind == soa)
            (neither _ (kind == cname) (neither (kind == a) (kind == ns) n1 n2) n3) n4) n5) n6) n7) n8) n9) n10

texts_some : (message : List ℕ) (from to : ℕ) (texts : List (List ℕ)) → TextsIn message from to (Ok texts) → IsTrue (nat_lt 0 (length texts))
texts_some message from to texts (inl (own, stand, some, is)) =
    let same : texts ≡ own = cc in subst (λ (x : List (List ℕ)). IsTrue (nat_lt 0 (length x))) (sym same) (lt-ltb 0 (length own) some)
texts_some message from to texts (inr (own, place, stand, early, cut, is)) = absurd cc

bytes_few : (message : List ℕ) (from to : ℕ) → to ≤ from + 65535 → IsTrue (nat_le (length (bytes_between message from to)) 65535)
bytes_few message from to few = le-leb (length (bytes_between message from to)) 65535 (omega (arith, length-take (to - from) (drop from message)))

-- content of a form belongs to the kinds and classes of the form
pub belongs_of : (kind class : ℕ) (of : Form) (message : List ℕ) (from to : ℕ) (what : Content) → Fits kind class of
    → to ≤ from + 65535 → ContentIn of message from to (Ok what) → IsTrue (belongs kind class what)
belongs_of kind class form.A message from to what fits few h =
    let m = made_value content.A (LastIn (AddressIn 4 message to) to from) what h in subst (λ x. IsTrue (belongs kind class x)) m.2 fits
belongs_of kind class form.Ns message from to what fits few h =
    let m = made_value content.Ns (LastIn (NameIn message to) to from) what h in subst (λ x. IsTrue (belongs kind class x)) m.2 fits
belongs_of kind class form.Cname message from to what fits few h =
    let m = made_value content.Cname (LastIn (NameIn message to) to from) what h in subst (λ x. IsTrue (belongs kind class x)) m.2 fits
belongs_of kind class form.Soa message from to what fits few h =
    let m = made_value content.Soa (LastIn (SoaIn message to) to from) what h in subst (λ x. IsTrue (belongs kind class x)) m.2 fits
belongs_of kind class form.Ptr message from to what fits few h =
    let m = made_value content.Ptr (LastIn (NameIn message to) to from) what h in subst (λ x. IsTrue (belongs kind class x)) m.2 fits
belongs_of kind class form.Mx message from to what fits few (goes p h (goes e k is)) =
    let same : content.Mx p.0 e ≡ what = cc in subst (λ x. IsTrue (belongs kind class x)) same fits
belongs_of kind class form.Mx message from to what fits few (goes p h (stops fault k is)) = absurd cc
belongs_of kind class form.Mx message from to what fits few (stops fault h is) = absurd cc
belongs_of kind class form.Txt message from to what fits few h =
    let m = made_value content.Txt (TextsIn message from to) what h in
    subst (λ x. IsTrue (belongs kind class x)) m.2 (both (kind == txt && class == internet) (nat_lt 0 (length m.0)) fits (texts_some message from to m.0 m.1))
belongs_of kind class form.Aaaa message from to what fits few h =
    let m = made_value content.Aaaa (LastIn (AddressIn 16 message to) to from) what h in subst (λ x. IsTrue (belongs kind class x)) m.2 fits
belongs_of kind class form.Srv message from to what fits few (goes p h (goes w k (goes o l (goes t m is)))) =
    let same : content.Srv p.0 w.0 o.0 t ≡ what = cc in subst (λ x. IsTrue (belongs kind class x)) same fits
belongs_of kind class form.Srv message from to what fits few (goes p h (goes w k (goes o l (stops fault m is)))) = absurd cc
belongs_of kind class form.Srv message from to what fits few (goes p h (goes w k (stops fault l is))) = absurd cc
belongs_of kind class form.Srv message from to what fits few (goes p h (stops fault k is)) = absurd cc
belongs_of kind class form.Srv message from to what fits few (stops fault h is) = absurd cc
belongs_of kind class form.Naptr message from to what fits few h =
    let m = made_value content.Naptr (RuleIn message from to) what h in subst (λ x. IsTrue (belongs kind class x)) m.2 fits
belongs_of kind class form.Opt message from to what fits few is =
    let same : content.Opt (bytes_between message from to) ≡ what = cc in
    subst (λ x. IsTrue (belongs kind class x)) same
    (both (kind == opt) (nat_le (length (bytes_between message from to)) 65535) fits
    (bytes_few message from to few))
belongs_of kind class form.Raw message from to what fits few is =
    let same : content.Raw (bytes_between message from to) ≡ what = cc in
    subst (λ x. IsTrue (belongs kind class x)) same
    (both (not (kind == opt) && not (class == internet && is_read kind))
    (nat_le (length (bytes_between message from to)) 65535) fits (bytes_few message from to few))

-- where RDATA begins and ends
pub record IsSpan (message : List ℕ) (at from to : ℕ) : Type 0 where
  pub begin : at + 2 ≡ from
  pub size : from ≤ to
  pub few : to ≤ from + 65535
  pub inside : to ≤ length message

pub length_span : (message : List ℕ) (at : ℕ) (rdata : ℕ × ℕ) → LengthAt message at (Ok rdata) → IsSpan message at rdata.1 rdata.0
length_span message at rdata (stops fault h is) = absurd cc
length_span message at rdata (goes size h (inr (past, is))) = absurd cc
length_span message at rdata (goes size (inr (short, wrong)) (inl (room, is))) = absurd cc
length_span message at rdata (goes size (inl (value, small, there, read)) (inl (room, is))) =
    let pair : ◌≡◌ {A = ℕ × ℕ} rdata (size.1 + size.0, size.1) = cc in
    let number : ◌≡◌ {A = ℕ × ℕ} size (value, at + 2) = cc in
    let end = ap (λ (x : ℕ × ℕ). x.0) pair in
    let start = ap (λ (x : ℕ × ℕ). x.1) pair in
    let most = ap (λ (x : ℕ × ℕ). x.0) number in
    let place = ap (λ (x : ℕ × ℕ). x.1) number in
    record { begin = omega arith; size = omega arith; few = omega arith; inside = omega arith }

pub content_belongs : (message : List ℕ) (kind class at : ℕ) (rdata : ℕ × ℕ) (what : Content)
    → LengthAt message at (Ok rdata)
    → OrMemory (ToldAs of_rdata (ContentIn (form_of kind class) message rdata.1 rdata.0)) (Ok what)
    → IsTrue (belongs kind class what)
content_belongs message kind class at rdata what h k =
    belongs_of kind class (form_of kind class) message rdata.1 rdata.0 what (form_fits kind class)
    (length_span message at rdata h).few
    (told_value of_rdata (ContentIn (form_of kind class) message rdata.1 rdata.0) what k)

-- a record whose content is read, or not
pub record_goes : (message : List ℕ) (at : ℕ) (owner : List (List ℕ) × ℕ) (kind class ttl rdata : ℕ × ℕ)
    (what : Content) (fits : IsTrue (belongs kind.0 class.0 what))
    → NameRead message at (Ok owner) → U16At message owner.1 (Ok kind) → U16At message kind.1 (Ok class)
    → U32At message class.1 (Ok ttl) → LengthAt message ttl.1 (Ok rdata)
    → OrMemory (ToldAs of_rdata (ContentIn (form_of kind.0 class.0) message rdata.1 rdata.0)) (Ok what)
    → OrMemory (RecordAt message at) (Ok (record { owner = owner.0; kind = kind.0; class = class.0; ttl = ttl.0; content = what; belongs = fits }, rdata.0))
record_goes message at owner kind class ttl rdata what fits h1 h2 h3 h4 h5 (inl h6) =
    inl (goes owner h1 (goes kind h2 (goes class h3 (goes ttl h4 (goes rdata h5 (goes what h6 (fits, refl)))))))
record_goes message at owner kind class ttl rdata what fits h1 h2 h3 h4 h5 (inr none) = absurd cc

pub record_stops : (message : List ℕ) (at : ℕ) (owner : List (List ℕ) × ℕ) (kind class ttl rdata : ℕ × ℕ)
    (fault : DecodeFault) (result : Result (Record × ℕ) DecodeFault)
    → NameRead message at (Ok owner) → U16At message owner.1 (Ok kind) → U16At message kind.1 (Ok class)
    → U32At message class.1 (Ok ttl) → LengthAt message ttl.1 (Ok rdata)
    → OrMemory (ToldAs of_rdata (ContentIn (form_of kind.0 class.0) message rdata.1 rdata.0)) (Err fault)
    → IsErrAnd result (λ told. told ≡ fault) → OrMemory (RecordAt message at) result
record_stops message at owner kind class ttl rdata fault (Ok value) h1 h2 h3 h4 h5 h6 is = absurd is
record_stops message at owner kind class ttl rdata fault (Err told) h1 h2 h3 h4 h5 (inl h6) is =
    inl (goes owner h1 (goes kind h2 (goes class h3 (goes ttl h4 (goes rdata h5 (stops fault h6 (ap Err is)))))))
record_stops message at owner kind class ttl rdata fault (Err told) h1 h2 h3 h4 h5 (inr none) is =
    let first : fault ≡ Memory = cc in inr (ap Err (is ∙ first))
