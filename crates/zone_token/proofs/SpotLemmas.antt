use Rattle.std.proofs.Common.{◌≡◌, ℕ, ◌<◌, List, get_or, length, Bool, true, false, ap, refl, arith}
use Rattle.std.specs.Prelude.{◌==◌, ◌||◌, ◌&&◌, not, if◌then◌else◌}
use Rattle.std.specs.List.{position_or_len}
use Rattle.std.proofs.lemmas.List.Sums.{fails_before_first}
use Rattle.zone_token.specs.Bytes.{line_feed, quote, opening, closing, semicolon, backslash, size_until}
use Rattle.zone_token.specs.Entries.{after, ends_entry, part_after, inside_after, is_escaped, is_quoted, still_size, turns}
use Rattle.zone_token.specs.declared.spot.Part.{Part}
use Rattle.zone_token.specs.declared.spot.Part.TheVariants.{Plain, Escaped, Quoted, QuotedEscaped, Comment}
use Rattle.zone_token.specs.declared.spot.Spot.{Spot}
use Rattle.zone_token.proofs.RunLemmas.{until-le}

-- a byte leaves a spot as it is, and ends no entry
pub record Stays (spot : Spot) (byte : ℕ) : Type 0 where
  pub same : after spot byte ≡ spot
  pub goes : ends_entry spot byte ≡ false

none_of : (feed quote semicolon opening closing backslash : Bool)
    → (feed || quote || semicolon || opening || closing || backslash) ≡ false
    → (feed ≡ false) × (quote ≡ false) × (semicolon ≡ false) × (opening ≡ false) × (closing ≡ false)
    × (backslash ≡ false)
none_of false false false false false false is = (refl, refl, refl, refl, refl, refl)
none_of true b c d e f is = cc
none_of false true c d e f is = cc
none_of false false true d e f is = cc
none_of false false false true e f is = cc
none_of false false false false true f is = cc
none_of false false false false false true is = cc

-- a byte without a meaning of its own does
stays-still : (part : Part) (inside : Bool) (byte : ℕ) → is_escaped part ≡ false → turns byte ≡ false → Stays (record { part = part; inside = inside }) byte
stays-still part inside byte plain is =
    let s = none_of (byte == line_feed) (byte == quote) (byte == semicolon) (byte == opening) (byte == closing) (byte == backslash) is in
    record { same = same_at part plain s.0 s.1 s.2 s.3 s.4 s.5; goes = ap (λ t. t && (is_quoted part || not inside)) s.0 }
  where
    same_at : (part : Part) → is_escaped part ≡ false → (byte == line_feed) ≡ false → (byte == quote) ≡ false
        → (byte == semicolon) ≡ false → (byte == opening) ≡ false → (byte == closing) ≡ false
        → (byte == backslash) ≡ false
        → ◌≡◌ {A = Spot} (record { part = part_after part byte; inside = inside_after part inside byte })
        (record { part = part; inside = inside })
    same_at Plain plain f q s o c b = rw (q, s, b, o, c) refl
    same_at Escaped plain f q s o c b = cc
    same_at Quoted plain f q s o c b = rw (q, b) refl
    same_at QuotedEscaped plain f q s o c b = cc
    same_at Comment plain f q s o c b = rw f refl

-- so do the bytes at the front of a text, as many as were counted
pub stays : (spot : Spot) (text : List ℕ) (k : ℕ) → k < still_size spot text → Stays spot (get_or text k 0)
stays spot text k below = at_test (is_escaped spot.part) refl below
  where
    at_test : (t : Bool) → is_escaped spot.part ≡ t → k < (if t then 0 else size_until turns text) → Stays spot (get_or text k 0)
    at_test true is below = absurd (omega arith)
    at_test false is below =
        let least = until-le (position_or_len turns text) (length text) in
        stays-still spot.part spot.inside (get_or text k 0) is (fails_before_first turns text k 0 (omega (arith, least)))
