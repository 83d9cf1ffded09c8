use Rattle.std.proofs.Common.{rules, ◌≡◌, None}
use Rattle.std.proofs.lemmas.Result.{err_from_is_err_and}
use Rattle.zone_text.proofs.ReaderLemmas.{end_breaks, end_says}
use Rattle.zone_text.proofs.reader.ZoneReader.end.Goals as goal

pub returns-in_err-finish-clause-breaks : goal.returns-in_err-finish-clause-breaks
returns-in_err-finish-clause-breaks c =
    let p = err_from_is_err_and c.from_residual.result c.from_residual.ensures.1 in
    rw (p.1, p.2)
    (λ none known. end_breaks c.args.self c.self.inside.origin c.self.inside.fed.items c.self.inside.left
    c.as_slice.result.now c.self.inside.fault c.self.inside.progress c.self.inside.spot _ c.self.view_is none
    c.as_slice.ensures c.self.invariant (c.in_err-finish.ensures.err known))

pub returns-clause-says : goal.returns-clause-says
returns-clause-says c =
    let none : c.self.inside.fault ≡ None = search rules in
    end_says c.args.self c.self.inside.origin c.self.inside.fed.items c.self.inside.left c.as_slice.result.now
    c.self.inside.fault c.self.inside.progress c.finish.new.progress c.self.inside.spot c.self.view_is none
    c.as_slice.ensures c.self.invariant c.in_ok-finish.ensures.ok c.finish.new.progress.plain
