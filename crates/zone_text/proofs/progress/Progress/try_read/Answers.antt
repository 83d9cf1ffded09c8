use Rattle.std.proofs.Common.{◌≤◌, ◌+◌, ◌∙◌, length, sym, arith}
use Rattle.std.proofs.lemmas.Result.{err_from_is_err_and}
use Rattle.zone_text.specs.Read.{seen}
use Rattle.zone_text.specs.Zone.{most_bytes}
use Rattle.zone_text.proofs.TokenlessLemmas.{broken_tokens, goes_by}
use Rattle.zone_text.proofs.progress.Progress.try_read.Goals as goal

pub returns-in_err-tokens-clause-err : goal.returns-in_err-tokens-clause-err
returns-in_err-tokens-clause-err c =
    let p = err_from_is_err_and c.from_residual.result c.from_residual.ensures.1 in
    let within : c.args.self.now.size + length c.args.entry.now ≤ most_bytes = omega (arith, c.args.self.now.within, c.if-entry-self.false) in
    rw (p.1, p.2) (λ known. broken_tokens _ _ _ _ _ within (c.in_err-tokens.ensures known))

pub returns-then-is_blank_entry-clause-ok : goal.returns-then-is_blank_entry-clause-ok
returns-then-is_blank_entry-clause-ok c =
    let within : c.args.self.now.size + length c.args.entry.now ≤ most_bytes = omega (arith, c.args.self.now.within, c.if-entry-self.false) in
    goes_by (seen c.args.self.now) (seen c.pass.new.self) c.args.entry.now within
    (sym c.is_blank_entry.ensures ∙ c.if-is_blank_entry.true) c.pass.ensures
