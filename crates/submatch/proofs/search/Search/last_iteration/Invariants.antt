use Rattle.std.proofs.Common.{◌+◌, ◌*◌, ◌≤◌, length}
use Rattle.posix_ere.specs.Parts.{parts_of, part}
use Rattle.submatch.specs.Table.{tree_of}
use Rattle.submatch.proofs.IteratingLemmas.{HasCome}
use Rattle.submatch.proofs.search.Search.last_iteration.Given as goal

abbrev pub invariant-loop-done : goal.invariant-loop-done
invariant-loop-done g l =
    HasCome l.self.fold l.self.text.now (part (parts_of (tree_of l.self.ere.now l.table l.rep.number)) 0) l.rep.least l.rep.most l.over.from l.over.to
    l.done l.place l.last ×
    (l.steps ≤ l.fn.steps + l.done * (length l.self.text.now + 2))
