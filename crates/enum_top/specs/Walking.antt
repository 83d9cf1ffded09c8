-- A walk over a source of rules that is made once (this project's own).
use Rattle.std.specs.Prelude.{◌≡◌, ℕ, List, IfOk, OnOk, IsTrue, Result, Err}
use Rattle.ddds_walk.specs.Asking.{AsksAll, AsksAtMost, NeedsMore}
use Rattle.ddds_walk.specs.Graph.{graph_of}
use Rattle.ddds_walk.specs.Report.{Answers}
use Rattle.ddds_walk.specs.Rules.{Client}
use Rattle.ddds_walk.specs.declared.fault.WalkFault.{WalkFault}
use Rattle.ddds_walk.specs.declared.fault.WalkFault.TheVariants.{Limit, Trouble}
use Rattle.ddds_walk.specs.declared.report.Report.{Report}
use Rattle.enum_base.specs.Causes.{Rose}
use Rattle.enum_base.specs.Outside.{WhereTold}
use Rattle.naptr_data.specs.Sources.{RuleSourceState}
use Rattle.naptr_data.specs.Zones.{Labels}

-- the report of the source's zones was handed out, and each needed domain was asked for once; no more were asked for than
-- the limit; it was passed only where more are needed; and trouble is the source's
pub record WalksOnce (client : Client) (keys : List Labels) (limit : ℕ) (old new : RuleSourceState) (result : Result Report WalkFault) : Type 0 where
  pub answer : WhereTold old.zones (λ zones. IfOk result (Answers client zones keys))
  pub asked : WhereTold old.zones (λ zones. OnOk result (AsksAll (graph_of client zones) keys old.asks new.asks))
  pub most : AsksAtMost limit old.asks new.asks
  pub past : WhereTold old.zones (λ zones. (asked : ℕ) → result ≡ Err (Limit asked) → NeedsMore (graph_of client zones) keys limit)
  pub trouble : result ≡ Err Trouble → Rose old.troubles new.troubles × IsTrue new.failed
