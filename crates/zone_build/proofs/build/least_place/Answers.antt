use Rattle.std.proofs.Common.{sym, ◌∙◌, arith}
use Rattle.zone_build.specs.Building.{Given}
use Rattle.naptr_data.proofs.CutLemmas.{Contains-none}
use Rattle.zone_build.proofs.ListLemmas.{least_more, turned_all, read_in}
use Rattle.zone_build.proofs.build.least_place.Goals as goal
use Rattle.zone_build.proofs.build.least_place.Goals.{then-place-least, else-place-least}

pub loop-entry-init : goal.loop-entry-init
loop-entry-init c = record {
  some = (c.index-owner-0.result, read_in c.args.owner.now 0 c.index-owner-0.result c.requires c.index-owner-0.is, sym c.place-least.ensures);
  least = λ one k. absurd (Contains-none one k);
}

pub loop-entry-preserved : goal.loop-entry-preserved
loop-entry-preserved c = elim c.if-place-least.branch [
  | then-place-least w ↦
      record {
        some = (
          c.entry-item.result,
          read_in c.args.owner.now c.loop-entry.entry-index c.entry-item.result c.loop-entry-test.true
              c.entry-item.is,
          sym c.place-place.ensures ∙ sym w.least-is,
        );
        least = least_more
            (λ (g : Given). g.place) c.args.owner.now c.loop-entry.entry-index c.entry-item.result c.loop-entry.least
            c.if-place-least.least c.loop-entry-test.true c.entry-item.is c.loop-entry.invariant.least (omega arith)
            (omega arith);
      }
  | else-place-least w ↦
      record {
        some = (c.loop-entry.invariant.some.0, c.loop-entry.invariant.some.1, c.loop-entry.invariant.some.2 ∙ sym w.least-is);
        least = least_more
            (λ (g : Given). g.place) c.args.owner.now c.loop-entry.entry-index c.entry-item.result c.loop-entry.least
            c.if-place-least.least c.loop-entry-test.true c.entry-item.is c.loop-entry.invariant.least (omega arith)
            (omega arith);
      }
]

pub returns : goal.returns
returns c = record {
  some = c.loop-entry.invariant.some;
  least = λ one k. c.loop-entry.invariant.least one (turned_all c.args.owner.now c.loop-entry.entry-index one c.loop-entry-test.false k);
}
