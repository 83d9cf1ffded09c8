use Rattle.std.proofs.Common.{◌≡◌, drop, find, map}
use Rattle.std.specs.Prelude.{bytes_eq}
use Rattle.request_words.specs.Reading.{row_in}
use Rattle.request_words.specs.Rows.{Row, table}
use Rattle.request_words.proofs.words.row_of.Given as goal

abbrev pub invariant-loop-row : goal.invariant-loop-row
invariant-loop-row l =
    find (λ (row : Row). bytes_eq l.word row.word) (map row_in (drop l.row-index l.row-items)) ≡ find (λ (row : Row). bytes_eq l.word row.word) table
