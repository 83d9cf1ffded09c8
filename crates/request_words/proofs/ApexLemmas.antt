-- How many apexes words may name.
use Rattle.std.proofs.Common.{ℕ, zero, suc, ◌≤◌, ◌<◌, List, [], ◌∷◌, ◌≡◌, ◌==◌, drop}
use Rattle.std.proofs.Common.{length, refl, sym, ap, subst, Bool, true, arith}
use Rattle.std.proofs.lemmas.Bool.{eqb-true}
use Rattle.std.proofs.lemmas.List.Elements.{All-contains}
use Rattle.std.proofs.lemmas.List.Sums.{AllPass-from_list_all}
use Rattle.std.specs.List.{list_all}
use Rattle.std.specs.Prelude.{Contains}
use Rattle.request_words.specs.Rows.{Row, apexes_choice, files_choice, table, want_choice}
use Rattle.request_words.specs.Words.{IsSpelled, Means, request_of, values_of}
use Rattle.request_words.specs.declared.option.Choice.{Choice}
use Rattle.request_words.specs.declared.option.OptionName.{OptionName}
use Rattle.request_words.specs.declared.request.AppName.{AppName}
use Rattle.request_words.specs.declared.request.Request.{Request}
use Rattle.request_words.specs.declared.request.Request.TheVariants.{Resolve}
use Rattle.request_words.specs.declared.request.Resolution.{Resolution}
use Rattle.request_words.proofs.OptionLemmas.{few_values}

-- the options of `resolve`
abbrev choices : List Choice
choices = want_choice ∷ apexes_choice ∷ files_choice ∷ []

second : 1 < length choices
second = omega arith

-- how many apexes a request has
abbrev count_in : Request → ℕ
count_in (Resolve asked) = asked.apexes.count
count_in other = 0

-- the rows but that of `resolve`
abbrev others : List Row
others = drop 1 table

-- a row's request names no apex
abbrev has_none : AppName → (OptionName → List ℕ) → Row → Bool
has_none app values row = count_in (request_of row.command app values) == 0

others-none : (app : AppName) (values : OptionName → List ℕ) → list_all (has_none app values) others ≡ true
others-none app values = refl

none : (app : AppName) (values : OptionName → List ℕ) (row : Row) → Contains others row
    → count_in (request_of row.command app values) ≡ 0
none app values row has =
    eqb-true (count_in (request_of row.command app values)) 0
    (All-contains (λ row. has_none app values row ≡ true) others row
    (AllPass-from_list_all (has_none app values) others (others-none app values)) has)

pub few_apexes : (words : List (List ℕ)) (asked : Resolution) → Means words (Resolve asked) → asked.apexes.count ≤ 8
few_apexes words asked m = subst (λ (n : ℕ). n ≤ 8) (sym (ap count_in m.is)) (by_row m.row m.listed m.spelled)
  where
    by_row : (row : Row) → Contains table row → IsSpelled row words m.app m.given
        → count_in (request_of row.command m.app (values_of row m.given)) ≤ 8
    by_row row (zero, below, is) spelled =
        subst (λ (r : Row). IsSpelled r words m.app m.given → count_in (request_of r.command m.app (values_of r m.given)) ≤ 8) is
        (λ s. few_values m.app choices apexes_choice m.given 4 s.often (1, second, refl)) spelled
    by_row row (suc k, below, is) spelled =
        omega (arith, none m.app (values_of row m.given) row (k, omega (arith, below), is))
