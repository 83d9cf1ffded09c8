use Rattle.std.proofs.Common.{◌≡◌, List, ℕ, subst}
use Rattle.std.specs.Prelude.{IfOk}
use Rattle.zone_build.proofs.RdataLemmas.{compared_whole}
use Rattle.zone_build.proofs.entry.compared_bytes.Goals as goal

pub returns-in_default : goal.returns-in_default
returns-in_default c =
    subst (λ (l : List ℕ). IfOk c.rdata.result (λ bytes. bytes ≡ l)) (compared_whole c.args.said.now c.in_default.not-Naptr) c.rdata.ensures
