-- A walk over zones has one answer, and so one text.
use Rattle.std.proofs.Common.{◌≡◌, ℕ, List, [], ◌∷◌, ◌++◌, sym, ap, ◌∙◌}
use Rattle.std.specs.Prelude.{codes}
use Rattle.dns_name.specs.Text.{text_of}
use Rattle.naptr_data.specs.Zones.{Labels, Zone}
use Rattle.ddds_walk.specs.Graph.{graph_of}
use Rattle.ddds_walk.specs.Report.{Answers, IsReport, IsLeastLoop, way_round}
use Rattle.ddds_walk.specs.Rules.{Client}
use Rattle.ddds_walk.specs.declared.report.End.{End}
use Rattle.ddds_walk.specs.declared.report.LoopPath.{LoopPath}
use Rattle.ddds_walk.specs.declared.report.Report.{Report}
use Rattle.ddds_walk.specs.declared.report.Report.TheVariants.{Ends, Loop}
use Rattle.report_text.specs.Printing.{path_text, last_domain, edge_lines, last_line}
use Rattle.enum_top.specs.Resolving.{printed_as}
use Rattle.enum_top.specs.declared.status.Ending.TheVariants as ending

-- the lines of a loop, by its derivation and its domains
abbrev pub loop_lines : ℕ → ℕ → List ℕ → List Labels → List ℕ
loop_lines keys place ranks domains =
    (codes "loop " ++ path_text keys place ranks ++ codes " " ++ text_of (last_domain domains) ++ codes "\n") ++ edge_lines ranks domains ++ last_line 0

same_loop : (keys : ℕ) (one other : LoopPath) → way_round one ≡ way_round other → one.domains ≡ other.domains
    → printed_as keys (Loop one) ≡ printed_as keys (Loop other)
same_loop keys one other ways domains = λ i. record { ending = ending.Loop; text = loop_lines keys (ways i).place (ways i).ranks (domains i) }

-- the laws that there is one report and one least loop
abbrev pub HasOneReport : Type 0
HasOneReport = (c : Client) (zones : List Zone) (keys : List Labels) (xs ys : List End) → IsReport c zones keys xs → IsReport c zones keys ys → xs ≡ ys

abbrev pub HasOneLoop : Type 0
HasOneLoop = (c : Client) (zones : List Zone) (keys : List Labels) (one other : LoopPath) (ds es : List Labels) (d e : Labels)
    → IsLeastLoop (graph_of c zones) keys (way_round one) ds d → IsLeastLoop (graph_of c zones) keys (way_round other) es e
    → (way_round one ≡ way_round other) × (ds ≡ es) × (d ≡ e)

-- .. and the one that follows
abbrev pub HasOneText : Type 0
HasOneText = (count : ℕ) (c : Client) (zones : List Zone) (keys : List Labels) (one other : Report) → Answers c zones keys one
    → Answers c zones keys other → printed_as count one ≡ printed_as count other

pub one_text : HasOneReport → HasOneLoop → HasOneText
one_text reports loops count c zones keys (Ends xs) (Ends ys) a b = ap (λ es. printed_as count (Ends es)) (reports c zones keys xs ys a.0 b.0)
one_text reports loops count c zones keys (Ends xs) (Loop path) a (earlier, last, is, least) =
    absurd (a.1 (way_round path) earlier last least.loop)
one_text reports loops count c zones keys (Loop path) (Ends ys) (earlier, last, is, least) b =
    absurd (b.1 (way_round path) earlier last least.loop)
one_text reports loops count c zones keys (Loop one) (Loop other) (earlier, last, is, least) (earlier', last', is', least') =
    let same = loops c zones keys one other earlier earlier' last last' least least' in
    same_loop count one other same.0 (is ∙ ap (λ ds. ds ++ last ∷ []) same.1 ∙ ap (λ d. earlier' ++ d ∷ []) same.2 ∙ sym is')
