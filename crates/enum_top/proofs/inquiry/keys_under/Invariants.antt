use Rattle.std.proofs.Common.{◌≡◌, drop, length}
use Rattle.enum_top.specs.Applications.{under}
use Rattle.enum_top.specs.Running.{listed}
use Rattle.enum_top.proofs.KeyLemmas.{IsMade}
use Rattle.enum_top.proofs.inquiry.keys_under.Given as goal

abbrev pub invariant-loop-top : goal.invariant-loop-top
invariant-loop-top l =
    record {
      made : IsMade (under l.number) l.tops (drop l.top-index l.tops) (listed l.keys);
      count : length (listed l.keys) ≡ l.top-index;
    }
