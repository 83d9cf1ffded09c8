use Rattle.std.proofs.Common.{drop}
use Rattle.request_words.specs.Words.{texts_of}
use Rattle.enum_top.specs.Handling.{ReadsShelf}
use Rattle.enum_top.proofs.FileLoopLemmas.{Leads}
use Rattle.enum_top.proofs.zones.read_zones.Given as goal

abbrev pub invariant-loop-place : goal.invariant-loop-place
invariant-loop-place g l =
    record {
      leads : Leads (g.S.Shelf.state l.initial.shelf).files (texts_of l.words) l.places (drop l.place-index l.places) l.zones;
      shelf : ReadsShelf (g.S.Shelf.state l.initial.shelf) (g.S.Shelf.state l.shelf) ⊥;
    }
