use Rattle.std.proofs.Common.{◌≡◌, drop, length}
use Rattle.enum_top.specs.Applications.{apex_of}
use Rattle.enum_top.specs.Running.{listed}
use Rattle.request_words.specs.Words.{text_at, texts_of}
use Rattle.enum_top.proofs.KeyLemmas.{IsMade}
use Rattle.enum_top.proofs.inquiry.read_names.Given as goal

abbrev pub invariant-loop-place : goal.invariant-loop-place
invariant-loop-place l =
    record {
      made : IsMade (λ place. apex_of (text_at (texts_of l.words) place)) l.places (drop l.place-index l.places) (listed l.names);
      count : length (listed l.names) ≡ l.place-index;
    }
