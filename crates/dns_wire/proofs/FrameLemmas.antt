use Rattle.std.proofs.Common.{◌≡◌, ℕ, zero, suc, ◌+◌, ◌-◌, ◌*◌, ◌/◌, ◌%◌, ◌^◌, ◌<◌, ◌≤◌, List, [], ◌∷◌, ◌++◌, length}
use Rattle.std.proofs.Common.{take, drop, slice_range, ◌⊎◌, inl, inr, refl, sym, ◌∙◌, ap, subst, arith, append_assoc}
use Rattle.std.proofs.Common.{length-append}
use Rattle.std.proofs.lemmas.List.{take_at, drop_at, drop-drop, append-nil, length-take, length-drop, take-append-drop, take_rest}
use Rattle.std.proofs.lemmas.Grind.{flat_map-append}
use Rattle.std.specs.List.{AllByRecursion}
use Rattle.std.specs.Int.{w16, to_be_bytes, byte_at}
use Rattle.byteorder.specs.Endian.{big_number}
use Rattle.dns_name.specs.Name.{IsByte}
use Rattle.dns_name.proofs.NameLemmas.{AllByRecursion-append}
use Rattle.rdata_field.proofs.PlaceLemmas.{by_size}
use Rattle.dns_wire.specs.Framing.{FitsFrame, framed, framed_all, Stream, stream_bytes, BeginsWith, IsNoWhole, GivesMessage, HasCut, OneCut, SomeCut}
use Rattle.dns_wire.specs.Frames.{messages_within, messages_of, cut_at, AreWhole, IsFrontWhole}

-- two bytes are those of their number
two_bytes : (high low : ℕ) → high < 256 → low < 256 → to_be_bytes w16 (256 * high + low) ≡ high ∷ low ∷ []
two_bytes high low h l =
    let first : (256 * high + low) / 256 % 256 ≡ high = omega arith in
    let second : (256 * high + low) % 256 ≡ low = omega arith in
    ap (λ b. b ∷ (256 * high + low) % 256 ∷ []) first ∙ ap (λ b. high ∷ b ∷ []) second

-- a number of 16 bits from its two bytes
of_two_bytes : (n : ℕ) → n < 2 ^ 16 → 256 * byte_at 1 n + byte_at 0 n ≡ n
of_two_bytes n small = omega arith

-- messages on a stream are read from it
messages_within-framed_all : (messages : List (List ℕ)) (more : ℕ) → AllByRecursion FitsFrame messages
    → length (framed_all messages) ≤ more → messages_within more (framed_all messages) ≡ messages
unfolding messages_within
messages_within-framed_all [] zero fit room = refl
messages_within-framed_all [] (suc more) fit room = refl
messages_within-framed_all (m ∷ ms) zero fit room = absurd (omega arith)
messages_within-framed_all (m ∷ ms) (suc more) fit room =
    let rest = framed_all ms in
    let size = of_two_bytes (length m) fit.0 in
    let fits : length rest ≤ more = omega (arith, length-append m rest) in
    ap (λ n. take n (m ++ rest) ∷ messages_within more (drop n (m ++ rest))) size
    ∙ ap (λ x. x ∷ messages_within more (drop (length m) (m ++ rest))) (take_at m rest (length m) refl)
    ∙ ap (λ x. m ∷ messages_within more x) (drop_at m rest (length m) refl)
    ∙ ap (λ x. m ∷ x) (messages_within-framed_all ms more fit.1 fits)

pub messages_of-framed_all : (messages : List (List ℕ)) → AllByRecursion FitsFrame messages → messages_of (framed_all messages) ≡ messages
unfolding messages_of
messages_of-framed_all messages fit = messages_within-framed_all messages (length (framed_all messages)) fit (omega arith)

-- one message at the front at most
pub BeginsWith-one : (bytes one other after after' : List ℕ) → BeginsWith bytes one after → BeginsWith bytes other after' → (one ≡ other) × (after ≡ after')
BeginsWith-one bytes one other after after' h k =
    let joined : framed one ++ after ≡ framed other ++ after' = sym h.parts ∙ k.parts in
    let high : byte_at 1 (length one) ≡ byte_at 1 (length other) = cc joined in
    let low : byte_at 0 (length one) ≡ byte_at 0 (length other) = cc joined in
    let rest : one ++ after ≡ other ++ after' = cc joined in
    let size : length one ≡ length other =
    sym (of_two_bytes (length one) h.fits)
    ∙ ap (λ b. 256 * b + byte_at 0 (length one)) high
    ∙ ap (λ b. 256 * byte_at 1 (length other) + b) low
    ∙ of_two_bytes (length other) k.fits in (
      sym (take_at one after (length one) refl) ∙ ap (take (length one)) rest ∙ take_at other after' (length one) (sym size),
      sym (drop_at one after (length one) refl) ∙ ap (drop (length one)) rest ∙ drop_at other after' (length one) (sym size),
    )

-- the first message of several stands at the front
front_of_all : (m : List ℕ) (ms : List (List ℕ)) (rest : List ℕ) → FitsFrame m → BeginsWith (framed_all (m ∷ ms) ++ rest) m (framed_all ms ++ rest)
front_of_all m ms rest fits = record { fits = fits; parts = append_assoc (framed m) (framed_all ms) rest }

pub one_cut : OneCut
one_cut bytes one other rest rest' h k = same one other (sym h.parts ∙ k.parts) h.fit k.fit
  where
    same : (one other : List (List ℕ)) → framed_all one ++ rest ≡ framed_all other ++ rest'
        → AllByRecursion FitsFrame one → AllByRecursion FitsFrame other → (one ≡ other) × (rest ≡ rest')
    same [] [] is f g = (refl, is)
    same [] (m ∷ ms) is f g =
        let P : List ℕ → Type 0 = λ b. BeginsWith b m (framed_all ms ++ rest') in
        absurd (h.end m (framed_all ms ++ rest') (subst P (sym is) (front_of_all m ms rest' g.0)))
    same (m ∷ ms) [] is f g =
        let P : List ℕ → Type 0 = λ b. BeginsWith b m (framed_all ms ++ rest) in
        absurd (k.end m (framed_all ms ++ rest) (subst P is (front_of_all m ms rest f.0)))
    same (m ∷ ms) (n ∷ ns) is f g =
        let P : List ℕ → Type 0 = λ b. BeginsWith b m (framed_all ms ++ rest) in
        let first = BeginsWith-one (framed_all (n ∷ ns) ++ rest') m n (framed_all ms ++ rest) (framed_all ns
        ++ rest') (subst P is (front_of_all m ms rest f.0)) (front_of_all n ns rest' g.0) in
        let more = same ms ns first.1 f.1 g.1 in
        ((λ i. first.0 i ∷ more.0 i), more.1)

-- too few bytes for a length
pub IsNoWhole-short : (bytes : List ℕ) → length bytes < 2 → IsNoWhole bytes
IsNoWhole-short bytes short message after h =
    let size : length bytes ≡ length (framed message ++ after) = ap length h.parts in
    absurd (omega arith)

-- too few bytes after their length
pub IsNoWhole-cut : (bytes : List ℕ) (size : ℕ) → size ≡ big_number 2 bytes → 2 ≤ length bytes → length bytes < 2 + size → IsNoWhole bytes
IsNoWhole-cut [] size is room cut message after h = absurd (omega arith)
IsNoWhole-cut (high ∷ []) size is room cut message after h = absurd (omega arith)
IsNoWhole-cut (high ∷ low ∷ tail) size is room cut message after h =
    let parts : high ∷ low ∷ tail ≡ framed message ++ after = h.parts in
    let first : high ≡ byte_at 1 (length message) = cc parts in
    let second : low ≡ byte_at 0 (length message) = cc parts in
    let rest : tail ≡ message ++ after = cc parts in
    let told : 256 * high + low ≡ length message = ap (λ b. 256 * b + low) first
    ∙ ap (λ b. 256 * byte_at 1 (length message) + b) second ∙ of_two_bytes (length message) h.fits in
    let all : length tail ≡ length message + length after = ap length rest ∙ length-append message after in
    let number : size ≡ 256 * high + low = is ∙ omega arith in
    absurd (omega arith)

-- a message after its length
begins_with : (high low size : ℕ) (tail : List ℕ) → high < 256 → low < 256 → size ≡ 256 * high + low
    → size ≤ length tail → BeginsWith (high ∷ low ∷ tail) (take size tail) (drop size tail)
begins_with high low size tail h l number room =
    let whole : length (take size tail) ≡ size = length-take size tail ∙ omega arith in
    record {
      fits = omega arith;
      parts =
          ap (λ x. high ∷ low ∷ x) (sym (take-append-drop size tail))
          ∙ ap (λ x. x ++ (take size tail ++ drop size tail)) (sym (two_bytes high low h l))
          ∙ ap (λ k. to_be_bytes w16 k ++ (take size tail ++ drop size tail)) (sym number ∙ sym whole)
          ∙ sym (append_assoc (to_be_bytes w16 (length (take size tail))) (take size tail) (drop size tail));
    }

each_after : (bytes : List ℕ) (n : ℕ) → AllByRecursion IsByte bytes → AllByRecursion IsByte (drop n bytes)
each_after bytes zero each = each
each_after [] (suc n) each = tt
each_after (b ∷ bytes) (suc n) each = each_after bytes n each.1

-- a stream with a length at its front has a cut, if each shorter one has
cut_after : (more high low size : ℕ) (tail : List ℕ)
    → ((bytes : List ℕ) → AllByRecursion IsByte bytes → length bytes ≤ more → HasCut bytes)
    → AllByRecursion IsByte (high ∷ low ∷ tail) → length tail ≤ more → size ≡ 256 * high + low
    → (size ≤ length tail) ⊎ (length tail < size) → HasCut (high ∷ low ∷ tail)
cut_after more high low size tail on each room number (inl fits) =
    let first = begins_with high low size tail each.0 each.1.0 number fits in
    let left = on (drop size tail) (each_after tail size each.1.1) (omega (arith, length-drop size tail)) in
    record {
      messages = take size tail ∷ left.messages;
      rest = left.rest;
      cut = record {
        parts = first.parts ∙ ap (λ x. framed (take size tail) ++ x) left.cut.parts
            ∙ sym (append_assoc (framed (take size tail)) (framed_all left.messages) left.rest);
        fit = (first.fits, left.cut.fit);
        end = left.cut.end;
      };
    }
cut_after more high low size tail on each room number (inr cut) = record {
  messages = [];
  rest = high ∷ low ∷ tail;
  cut = record {
    parts = refl;
    fit = tt;
    end = IsNoWhole-cut (high ∷ low ∷ tail) size (number ∙ omega arith) (omega arith) (omega arith);
  };
}

cut_short : (bytes : List ℕ) → length bytes < 2 → HasCut bytes
cut_short bytes few = record { messages = []; rest = bytes; cut = record { parts = refl; fit = tt; end = IsNoWhole-short bytes few } }

cut_within : (more : ℕ) (bytes : List ℕ) → AllByRecursion IsByte bytes → length bytes ≤ more → HasCut bytes
cut_within more [] each room = cut_short [] (omega arith)
cut_within more (high ∷ []) each room = cut_short (high ∷ []) (omega arith)
cut_within zero (high ∷ low ∷ tail) each room = absurd (omega arith)
cut_within (suc more) (high ∷ low ∷ tail) each room =
    cut_after more high low (256 * high + low) tail (λ bytes each room. cut_within more bytes each room) each
    (omega arith) refl (by_size (256 * high + low) (length tail))

-- every stream has a cut
pub some_cut : SomeCut
some_cut bytes each = cut_within (length bytes) bytes each (omega arith)

-- nothing is whole messages, and none
pub IsFrontWhole-new : IsFrontWhole [] 0
unfolding messages_of messages_within
IsFrontWhole-new = record { inside = omega arith; front = record { parts = refl; fit = tt } }

pub cut_at-new : ◌≡◌ {A = Stream} (cut_at [] 0) (record { given = []; rest = [] })
unfolding messages_of messages_within
cut_at-new = refl

AreWhole-read : (bytes : List ℕ) (messages : List (List ℕ)) → AllByRecursion FitsFrame messages
    → framed_all messages ≡ bytes → AreWhole bytes × (messages_of bytes ≡ messages)
AreWhole-read bytes messages fit is =
    let read : messages_of bytes ≡ messages = ap messages_of (sym is) ∙ messages_of-framed_all messages fit in
    let P : List (List ℕ) → Type 0 = AllByRecursion FitsFrame in
    (record { parts = ap framed_all read ∙ is; fit = subst P (sym read) fit }, read)

-- the bytes of the stream, from what is kept of it
pub stream_bytes-cut_at : (bytes : List ℕ) (place : ℕ) → IsFrontWhole bytes place → stream_bytes (cut_at bytes place) ≡ bytes
stream_bytes-cut_at bytes place h = ap (λ x. x ++ drop place bytes) h.front.parts ∙ take-append-drop place bytes

-- how far the given messages reach
given-length : (bytes : List ℕ) (place : ℕ) → IsFrontWhole bytes place → length (framed_all (messages_of (take place bytes))) ≡ place
given-length bytes place h =
    let inside = h.inside in
    ap length h.front.parts ∙ length-take place bytes ∙ omega arith

-- the message at the front of the rest was given
pub record HasGiven (bytes : List ℕ) (place next : ℕ) : Type 0 where
  pub whole : IsFrontWhole bytes next
  pub message : GivesMessage (cut_at bytes place) (cut_at bytes next) (slice_range (stream_bytes (cut_at bytes next)) (place + 2) next)
  pub place_is : place + 2 ≡ length (framed_all (messages_of (take place bytes))) + 2
  pub within : next ≤ length (stream_bytes (cut_at bytes next))

-- the same by the message and what is after it
record Step (bytes : List ℕ) (place next : ℕ) (message after : List ℕ) : Type 0 where
  whole : IsFrontWhole bytes next
  given : messages_of (take next bytes) ≡ messages_of (take place bytes) ++ message ∷ []
  rest : drop next bytes ≡ after

step : (bytes : List ℕ) (place next : ℕ) (message after : List ℕ) → IsFrontWhole bytes place
    → BeginsWith (drop place bytes) message after → next ≡ place + (2 + length message)
    → Step bytes place next message after
step bytes place next message after h first at =
    let given = messages_of (take place bytes) in
    let front = framed_all given ++ framed message in
    let inside = h.inside in
    let size = given-length bytes place h in
    let all : bytes ≡ front ++ after =
    sym (take-append-drop place bytes)
    ∙ ap (λ x. x ++ drop place bytes) (sym h.front.parts)
    ∙ ap (λ x. framed_all given ++ x) first.parts
    ∙ sym (append_assoc (framed_all given) (framed message) after) in
    let seam : length front ≡ next = omega (arith, length-append (framed_all given) (framed message)) in
    let joined : framed_all (given ++ message ∷ []) ≡ front =
    flat_map-append framed given (message ∷ []) ∙ ap (λ x. framed_all given ++ x) (append-nil (framed message)) in
    let taken : take next bytes ≡ front = ap (take next) all ∙ take_at front after next seam in
    let read = AreWhole-read (take next bytes) (given
    ++ message ∷ []) (AllByRecursion-append FitsFrame given (message ∷ []) h.front.fit (first.fits, tt))
    (joined ∙ sym taken) in
    let room : length bytes ≡ length front + length after = ap length all ∙ length-append front after in
    record {
      whole = record { inside = omega arith; front = read.0 };
      given = read.1;
      rest = ap (drop next) all ∙ drop_at front after next seam;
    }

pub HasGiven-front : (bytes : List ℕ) (place size : ℕ) → IsFrontWhole bytes place
    → BeginsWith (drop place bytes) (take size (drop 2 (drop place bytes))) (drop size (drop 2 (drop place bytes)))
    → 2 + size ≤ length (drop place bytes) → HasGiven bytes place (place + 2 + size)
HasGiven-front bytes place size h first room =
    let next = place + 2 + size in
    let message = take size (drop 2 (drop place bytes)) in
    let whole : length message ≡ size = length-take size (drop 2 (drop place bytes)) ∙ omega (arith, length-drop 2 (drop place bytes)) in
    let s = step bytes place next message (drop size (drop 2 (drop place bytes))) h first (omega arith) in
    let all = stream_bytes-cut_at bytes next s.whole in
    let there : slice_range (stream_bytes (cut_at bytes next)) (place + 2) next ≡ message =
    ap (λ x. slice_range x (place + 2) next) all
    ∙ ap (λ n. take n (drop (place + 2) bytes)) (omega arith)
    ∙ ap (take size) (sym (drop-drop 2 place bytes)) in
    let P : List ℕ → Type 0 = GivesMessage (cut_at bytes place) (cut_at bytes next) in
    let Q : List ℕ → Type 0 = BeginsWith (drop place bytes) message in
    let inside = s.whole.inside in
    record {
      whole = s.whole;
      message = subst P (sym there) (record { first = subst Q (sym s.rest) first; given = s.given });
      place_is = ap (λ n. n + 2) (sym (given-length bytes place h));
      within = omega (arith, ap length all);
    }

-- the same, as a slice of what is held
pub HasGiven-held : (bytes held : List ℕ) (place size : ℕ) → held ≡ bytes → IsFrontWhole bytes place
    → BeginsWith (take (length held - place) (drop place held))
    (take size (drop 2 (take (length held - place) (drop place held))))
    (drop size (drop 2 (take (length held - place) (drop place held))))
    → 2 + size ≤ length (take (length held - place) (drop place held)) → HasGiven bytes place (place + 2 + size)
HasGiven-held bytes held place size is h first room =
    let rest : take (length held - place) (drop place held) ≡ drop place bytes = take_rest held place ∙ ap (drop place) is in
    let P : List ℕ → Type 0 = λ r. BeginsWith r (take size (drop 2 r)) (drop size (drop 2 r)) in
    let Q : List ℕ → Type 0 = λ r. 2 + size ≤ length r in
    HasGiven-front bytes place size h (subst P rest first) (subst Q rest room)
