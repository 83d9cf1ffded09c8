-- Addresses as they are written, read again.
use Rattle.std.proofs.Common.{◌≡◌, ◌∙◌, ℕ, zero, suc, ◌+◌, ◌-◌, ◌*◌, ◌/◌, ◌%◌, ◌<◌, ◌≤◌, List, [], ◌∷◌, ◌++◌, length}
use Rattle.std.proofs.Common.{drop, decimal, codes, true, false, Some, None, refl, ap, arith, append_assoc}
use Rattle.std.specs.Prelude.{◌==◌, ◌&&◌, nat_le, nat_lt}
use Rattle.std.specs.Char.{digit_char}
use Rattle.std.specs.List.{AllByRecursion, flat_map}
use Rattle.std.specs.Net.Addr.{segments_of, octets_of}
use Rattle.std.specs.Net.Text.{hex, groups_text, ipv4_text}
use Rattle.std.proofs.lemmas.Bool.{cond-true, cond-false, cond_both, ne_eqb, eq-eqb}
use Rattle.std.proofs.lemmas.Bool.Decides.{nat_tests}
use Rattle.std.proofs.lemmas.List.{append-nil}
use Rattle.dns_name.specs.Name.{IsByte}
use Rattle.zone_token.specs.Texts.{◌>>=◌}
use Rattle.zone_token.specs.Addresses.{cut, colon, dot, octet_of, quad_of, hex_of, digits_of, group_of, last_group}
use Rattle.zone_token.specs.Addresses.{groups_of, is_colon, double_from, cut_double, address_of}
use Rattle.zone_token.proofs.TextLemmas.{bytes_before}
use Rattle.zone_token.proofs.AddressLemmas.{groups-last, groups-step}
use Rattle.zone_text.proofs.BareLemmas.{is_plain}
use Rattle.zone_text.proofs.WrittenLemmas.{length-segments}
use Rattle.zone_text.proofs.NumberLemmas.{cut-at, cut-none, of_decimal, octet_back}

-- a dotted quad of these parts
quad_parts : (text first second third fourth rest more : List ℕ) (a b c d : ℕ) → cut dot text ≡ Some (first, rest)
    → cut dot rest ≡ Some (second, more) → cut dot more ≡ Some (third, fourth)
    → octet_of first ≡ Some a → octet_of second ≡ Some b → octet_of third ≡ Some c → octet_of fourth ≡ Some d → quad_of text ≡ Some (a ∷ b ∷ c ∷ d ∷ [])
unfolding quad_of
quad_parts text first second third fourth rest more a b c d cut1 cut2 cut3 one two three four = rw (cut1, cut2, cut3, one, two, three, four) refl

no_dot : (n : ℕ) → n < 256 → AllByRecursion (λ b. (b == dot) ≡ false) (decimal n)
no_dot n small = of_decimal (λ b. (b == dot) ≡ false) (λ c low high. ne_eqb c 46 (λ e. omega (arith, e))) n (omega arith)

-- four bytes are read from their dotted quad
pub quad_back : (a b c d : ℕ) → a < 256 → b < 256 → c < 256 → d < 256 → quad_of (ipv4_text (a ∷ b ∷ c ∷ d ∷ [])) ≡ Some (a ∷ b ∷ c ∷ d ∷ [])
quad_back a b c d ha hb hc hd =
    let last : List ℕ = decimal d in
    let more : List ℕ = decimal c ++ dot ∷ last in
    let rest : List ℕ = decimal b ++ dot ∷ more in
    let parts : ipv4_text (a ∷ b ∷ c ∷ d ∷ []) ≡ decimal a ++ dot ∷ rest = simp append_assoc in
    ap quad_of parts
    ∙ quad_parts (decimal a ++ dot ∷ rest) (decimal a) (decimal b) (decimal c) last rest more a b c d
    (cut-at dot (decimal a) rest (no_dot a ha)) (cut-at dot (decimal b) more (no_dot b hb)) (cut-at dot (decimal c) last (no_dot c hc))
    (octet_back a ha) (octet_back b hb) (octet_back c hc) (octet_back d hd)

-- a hexadecimal digit is read as its value
hex_back : (x : ℕ) → x < 16 → hex_of (digit_char x) ≡ Some x
hex_back zero h = refl
hex_back (suc zero) h = refl
hex_back (suc (suc zero)) h = refl
hex_back (suc (suc (suc zero))) h = refl
hex_back (suc (suc (suc (suc zero)))) h = refl
hex_back (suc (suc (suc (suc (suc zero))))) h = refl
hex_back (suc (suc (suc (suc (suc (suc zero)))))) h = refl
hex_back (suc (suc (suc (suc (suc (suc (suc zero))))))) h = refl
hex_back (suc (suc (suc (suc (suc (suc (suc (suc zero)))))))) h = refl
hex_back (suc (suc (suc (suc (suc (suc (suc (suc (suc zero))))))))) h = refl
hex_back (suc (suc (suc (suc (suc (suc (suc (suc (suc (suc zero)))))))))) h = refl
hex_back (suc (suc (suc (suc (suc (suc (suc (suc (suc (suc (suc zero))))))))))) h = refl
hex_back (suc (suc (suc (suc (suc (suc (suc (suc (suc (suc (suc (suc zero)))))))))))) h = refl
hex_back (suc (suc (suc (suc (suc (suc (suc (suc (suc (suc (suc (suc (suc zero))))))))))))) h = refl
hex_back (suc (suc (suc (suc (suc (suc (suc (suc (suc (suc (suc (suc (suc (suc zero)))))))))))))) h = refl
hex_back (suc (suc (suc (suc (suc (suc (suc (suc (suc (suc (suc (suc (suc (suc (suc zero))))))))))))))) h = refl
hex_back (suc (suc (suc (suc (suc (suc (suc (suc (suc (suc (suc (suc (suc (suc (suc (suc x)))))))))))))))) h = absurd (omega arith)

digits_back : (a b c d : ℕ) → a < 16 → b < 16 → c < 16 → d < 16
    → digits_of (digit_char a) (digit_char b) (digit_char c) (digit_char d) ≡ Some ((16 * a + b) ∷ (16 * c + d) ∷ [])
unfolding digits_of
digits_back a b c d ha hb hc hd =
    let one = hex_back a ha in let two = hex_back b hb in let three = hex_back c hc in let four = hex_back d hd in
    rw (one, two, three, four) refl

-- the bytes of a group
bytes_of_group : (n a b c d : ℕ) → 16 * a + b ≡ n / 256 → 16 * c + d ≡ n % 256 → a < 16 → b < 16 → c < 16 → d < 16
    → digits_of (digit_char a) (digit_char b) (digit_char c) (digit_char d) ≡ Some ((n / 256) ∷ (n % 256) ∷ [])
bytes_of_group n a b c d high low ha hb hc hd =
    digits_back a b c d ha hb hc hd ∙ ap (λ x. Some (x ∷ (16 * c + d) ∷ [])) high ∙ ap (λ x. Some ((n / 256) ∷ x ∷ [])) low

-- a group is read from its text
pub group_back : (n : ℕ) → n < 65536 → group_of (hex n) ≡ Some ((n / 256) ∷ (n % 256) ∷ [])
unfolding hex
group_back n small =
    let x = n / 0x1000 in let y = n / 0x100 % 16 in let z = n / 0x10 % 16 in let w = n % 16 in
    let four : List ℕ = digit_char x ∷ digit_char y ∷ digit_char z ∷ digit_char w ∷ [] in
    let P : ℕ → Type 0 = λ k. group_of (drop k four) ≡ Some ((n / 256) ∷ (n % 256) ∷ []) in
    cond_both (nat_le 0x1000 n) _ _ P
    (λ big. bytes_of_group n x y z w (omega arith) (omega arith) (omega arith) (omega arith) (omega arith) (omega arith)) (λ below.
    let less : n < 0x1000 = grind (arith, nat_tests) in
    cond_both (nat_le 0x100 n) _ _ P
    (λ big. bytes_of_group n 0 y z w (omega arith) (omega arith) (omega arith) (omega arith) (omega arith) (omega arith)) (λ below.
    let less : n < 0x100 = grind (arith, nat_tests) in
    cond_both (nat_le 0x10 n) _ _ P
    (λ big. bytes_of_group n 0 0 z w (omega arith) (omega arith) (omega arith) (omega arith) (omega arith) (omega arith)) (λ below.
    let less : n < 0x10 = grind (arith, nat_tests) in
    bytes_of_group n 0 0 0 w (omega arith) (omega arith) (omega arith) (omega arith) (omega arith) (omega arith))))

-- a fact of all hexadecimal digits is one of a group's text
pub of_hex : (P : ℕ → Type 0) → ((x : ℕ) → x < 16 → P (digit_char x)) → (n : ℕ) → n < 65536 → AllByRecursion P (hex n)
unfolding hex
of_hex P each n small =
    let x = n / 0x1000 in let y = n / 0x100 % 16 in let z = n / 0x10 % 16 in let w = n % 16 in
    let four : List ℕ = digit_char x ∷ digit_char y ∷ digit_char z ∷ digit_char w ∷ [] in
    let Q : ℕ → Type 0 = λ k. AllByRecursion P (drop k four) in
    let last : P (digit_char w) = each w (omega arith) in
    let third : P (digit_char z) = each z (omega arith) in
    let second : P (digit_char y) = each y (omega arith) in
    cond_both (nat_le 0x1000 n) _ _ Q (λ big. (each x (omega arith), (second, (third, (last, tt))))) (λ below.
    cond_both (nat_le 0x100 n) _ _ Q (λ big. (second, (third, (last, tt)))) (λ below.
    cond_both (nat_le 0x10 n) _ _ Q (λ big. (third, (last, tt))) (λ below. (last, tt))))

pub hex-some : (n : ℕ) → 0 < length (hex n)
unfolding hex
hex-some n =
    let four : List ℕ = digit_char (n / 0x1000) ∷ digit_char (n / 0x100 % 16) ∷ digit_char (n / 0x10 % 16) ∷ digit_char (n % 16) ∷ [] in
    let Q : ℕ → Type 0 = λ k. 0 < length (drop k four) in
    cond_both (nat_le 0x1000 n) _ _ Q (λ big. omega arith)
    (λ below. cond_both (nat_le 0x100 n) _ _ Q (λ big. omega arith)
    (λ below. cond_both (nat_le 0x10 n) _ _ Q (λ big. omega arith) (λ below. omega arith)))

digit_no_colon : (x : ℕ) → x < 16 → (digit_char x == colon) ≡ false
digit_no_colon x h = cond_both (nat_lt x 10) (48 + x) (87 + x) (λ c. (c == colon) ≡ false)
    (λ small. let less : x < 10 = grind (arith, nat_tests) in ne_eqb (48 + x) 58 (λ e. omega (arith, e))) (λ large. ne_eqb (87 + x) 58 (λ e. omega (arith, e)))

pub digit_char-plain : (x : ℕ) → x < 16 → is_plain (digit_char x) ≡ true
digit_char-plain x h = cond_both (nat_lt x 10) (48 + x) (87 + x) (λ c. is_plain c ≡ true)
    (λ small. let less : x < 10 = grind (arith, nat_tests) in grind (arith, nat_tests))
    (λ large. let more : 10 ≤ x = grind (arith, nat_tests) in grind (arith, nat_tests))

no_colon : (n : ℕ) → n < 65536 → AllByRecursion (λ b. (b == colon) ≡ false) (hex n)
no_colon n small = of_hex (λ b. (b == colon) ≡ false) digit_no_colon n small

-- groups after the first
abbrev pub groups_after : List ℕ → List ℕ
groups_after groups = flat_map (λ group. codes ":" ++ hex group) groups

last-group : (n : ℕ) → n < 65536 → last_group true (hex n) ≡ Some (octets_of (n ∷ []))
unfolding last_group
last-group n small = let is = group_back n small in rw is refl

-- groups are read from their text
groups_back : (more first : ℕ) (rest : List ℕ) → length rest < more → first < 65536 → AllByRecursion (λ n. n < 65536) rest
    → groups_of more true (hex first ++ groups_after rest) ≡ Some (octets_of (first ∷ rest))
groups_back zero first rest room small all = absurd (omega arith)
groups_back (suc more) first [] room small all =
    let whole : hex first ++ [] ≡ hex first = append-nil (hex first) in
    ap (groups_of (suc more) true) whole
    ∙ groups-last (suc more) true (hex first) (omega arith) (cut-none colon (hex first) (no_colon first small))
    ∙ last-group first small
groups_back (suc more) first (next ∷ rest) room small all =
    let after : List ℕ = hex next ++ groups_after rest in
    let later = groups_back more next rest (omega arith) all.0 all.1 in
    let count : suc more - 1 ≡ more = omega arith in
    groups-step (suc more) true (hex first ++ groups_after (next ∷ rest)) (hex first) after (omega arith)
    (cut-at colon (hex first) after (no_colon first small))
    ∙ ap (λ o. o >>= λ group. bytes_before group (groups_of (suc more - 1) true after)) (group_back first small)
    ∙ ap (λ n. bytes_before ((first / 256) ∷ (first % 256) ∷ []) (groups_of n true after)) count
    ∙ ap (bytes_before ((first / 256) ∷ (first % 256) ∷ [])) later

-- two bytes are one group, and one group two bytes
octets-segments : (count : ℕ) (octets : List ℕ) → length octets ≡ count + count → AllByRecursion IsByte octets → octets_of (segments_of octets) ≡ octets
octets-segments zero [] two all = refl
octets-segments zero (a ∷ octets) two all = absurd (omega arith)
octets-segments (suc count) [] two all = absurd (omega arith)
octets-segments (suc count) (a ∷ []) two all = absurd (omega arith)
octets-segments (suc count) (a ∷ b ∷ octets) two all =
    let high : (a * 256 + b) / 256 ≡ a = (let small = all.1.0 in omega arith) in
    let low : (a * 256 + b) % 256 ≡ b = (let small = all.1.0 in omega arith) in
    ap (λ x. x ∷ ((a * 256 + b) % 256) ∷ octets_of (segments_of octets)) high ∙ ap (λ x. a ∷ x ∷ octets_of (segments_of octets)) low
    ∙ ap (λ l. a ∷ b ∷ l) (octets-segments count octets (omega arith) all.1.1)

pub segments-small : (count : ℕ) (octets : List ℕ) → length octets ≡ count + count → AllByRecursion IsByte octets
    → AllByRecursion (λ n. n < 65536) (segments_of octets)
segments-small zero [] two all = tt
segments-small zero (a ∷ octets) two all = absurd (omega arith)
segments-small (suc count) [] two all = absurd (omega arith)
segments-small (suc count) (a ∷ []) two all = absurd (omega arith)
segments-small (suc count) (a ∷ b ∷ octets) two all =
    let x = all.0 in let y = all.1.0 in (omega arith, segments-small count octets (omega arith) all.1.1)

-- no two colons stand in a row
double-pass : (at : ℕ) (part rest : List ℕ) → AllByRecursion (λ b. (b == colon) ≡ false) part
    → double_from at (part ++ rest) ≡ double_from (at + length part) rest
double-pass at [] rest all = ap (λ n. double_from n rest) (let e : at ≡ at + 0 = omega arith in e)
double-pass at (byte ∷ part) rest all =
    let other = all.0 in
    let test : (byte == colon && is_colon (part ++ rest)) ≡ false = rw other refl in
    cond-false (byte == colon && is_colon (part ++ rest)) _ _ test ∙ double-pass (at + 1) part rest all.1
    ∙ ap (λ n. double_from n rest) (let e : at + 1 + length part ≡ at + suc (length part) = omega arith in e)

first-no_colon : (text rest : List ℕ) → 0 < length text → AllByRecursion (λ b. (b == colon) ≡ false) text → is_colon (text ++ rest) ≡ false
first-no_colon [] rest some all = absurd (omega arith)
first-no_colon (byte ∷ text) rest some all = all.0

double-after : (at : ℕ) (groups : List ℕ) → AllByRecursion (λ n. n < 65536) groups → double_from at (groups_after groups) ≡ None
double-after at [] all = refl
double-after at (n ∷ groups) all =
    let next = first-no_colon (hex n) (groups_after groups) (hex-some n) (no_colon n all.0) in
    cond-false (colon == colon && is_colon (hex n ++ groups_after groups)) _ _ next
    ∙ double-pass (at + 1) (hex n) (groups_after groups) (no_colon n all.0) ∙ double-after (at + 1 + length (hex n)) groups all.1

no_double : (groups : List ℕ) → AllByRecursion (λ n. n < 65536) groups → double_from 0 (groups_text groups) ≡ None
no_double [] all = refl
no_double (n ∷ groups) all = double-pass 0 (hex n) (groups_after groups) (no_colon n all.0) ∙ double-after (0 + length (hex n)) groups all.1

whole_text : (groups : List ℕ) → length groups ≡ 8 → AllByRecursion (λ n. n < 65536) groups → groups_of 8 true (groups_text groups) ≡ Some (octets_of groups)
whole_text [] eight all = absurd (omega arith)
whole_text (n ∷ groups) eight all = groups_back 8 n groups (omega arith) all.0 all.1

without_double : (text bytes : List ℕ) → double_from 0 text ≡ None → groups_of 8 true text ≡ Some bytes → length bytes ≡ 16 → address_of text ≡ Some bytes
unfolding address_of cut_double
without_double text bytes none groups whole = rw (none, groups) (cond-true (length bytes == 16) _ _ (eq-eqb (length bytes) 16 whole))

-- sixteen bytes are read from their groups
pub address_back : (address : List ℕ) → length address ≡ 16 → AllByRecursion IsByte address → address_of (groups_text (segments_of address)) ≡ Some address
address_back address whole all =
    let groups = segments_of address in
    let small = segments-small 8 address whole all in
    without_double (groups_text groups) address (no_double groups small)
    (whole_text groups (length-segments 8 address whole) small ∙ ap Some (octets-segments 8 address whole all)) whole
