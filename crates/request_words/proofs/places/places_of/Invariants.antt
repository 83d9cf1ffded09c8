use Rattle.std.proofs.Common.{◌≡◌, ◌≤◌, ◌+◌, length}
use Rattle.request_words.specs.Reading.{places_in}
use Rattle.request_words.specs.Rows.{option_word}
use Rattle.request_words.specs.Words.{places_from, texts_of}
use Rattle.request_words.proofs.PlaceLemmas.{added}
use Rattle.request_words.proofs.places.places_of.Given as goal

abbrev pub invariant-options : goal.invariant-options
invariant-options l =
    record {
      read : added l.places (places_in (option_word l.option) l.at (texts_of l.left))
          ≡ places_from (places_in (option_word l.option) l.place (texts_of l.words));
      place : l.at + length l.left ≡ l.place + length l.words;
      count : l.places.count + length l.left ≤ length l.words;
    }

abbrev pub decreases-options : goal.decreases-options
decreases-options l = length l.left
