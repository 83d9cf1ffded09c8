-- When a rule gives nothing.
use Rattle.std.proofs.Common.{◌≡◌, inl, inr, ℕ, ◌<◌, List, [], length, Some, Ok, Err, sym, ap, subst, ◌∙◌, arith}
use Rattle.dns_name.specs.Reading.{name_of}
use Rattle.dns_name.specs.declared.fault.NameFault.{NameFault}
use Rattle.naptr_data.specs.Zones.{Labels}
use Rattle.naptr_rule.specs.declared.rule.Naptr.{Naptr}
use Rattle.service_field.specs.declared.kind.Kind.TheVariants as kind
use Rattle.subst_expr.specs.Output.{IsOutput}
use Rattle.subst_expr.specs.Laws.{OneOutput}
use Rattle.ddds_walk.specs.Rules.{Client, GivesAs, Yields, GivesName, HasOutput}
use Rattle.rule_check.specs.Fields.{HasReplacement}
use Rattle.rule_check.specs.Uris.{IsUri}
use Rattle.ddds_walk.specs.declared.edge.Edge.{Edge}
use Rattle.ddds_walk.specs.declared.edge.Edge.TheVariants.{Step, Stop}
use Rattle.ddds_walk.specs.declared.report.Outcome.TheVariants.{Uri, Target, Unserved}

-- a rule has one output
one_output : OneOutput → (rule : Naptr) (string bs cs : List ℕ) → HasOutput rule string bs → HasOutput rule string cs → bs ≡ cs
one_output one rule string bs cs h k = one rule.regexp string bs cs h.output k.output

-- an output that is too long is none
pub too_long : OneOutput → (rule : Naptr) (string aus : List ℕ) → string ≡ aus
    → (long : List ℕ) × IsOutput rule.regexp string long × (1024 < length long)
    → (bytes : List ℕ) → HasOutput rule aus bytes → ⊥
too_long one rule string aus e (long, h, l) bytes k =
    let g : IsOutput rule.regexp aus long = subst (λ s. IsOutput rule.regexp s long) e h in
    let same : long ≡ bytes = one rule.regexp aus long bytes g k.output in
    omega (arith, ap length same, k.most)

-- an output that reads as no name gives no domain
pub no_name : OneOutput → (rule : Naptr) (string output : List ℕ) (fault : NameFault)
    → HasOutput rule string output → name_of output (Some []) ≡ Err fault → (domain : Labels) → GivesName rule string domain → ⊥
no_name one rule string output fault h e domain (bytes, labels, k, f, g) =
    let same : bytes ≡ output = one_output one rule string bytes output k h in
    let read : name_of output (Some []) ≡ Ok labels = subst (λ b. name_of b (Some []) ≡ Ok labels) same f in
    cc (sym e ∙ read)

-- a rule with no REPLACEMENT alone, and whose REGEXP gives no domain, gives no step
pub no_step : (c : Client) (rule : Naptr) → (HasReplacement rule → ⊥) → ((domain : Labels) → GivesName rule c.string domain → ⊥)
    → (edge : Edge) → GivesAs kind.Step c rule edge → ⊥
no_step c rule n f edge g = by edge g.yields
  where
    by : (edge : Edge) → Yields kind.Step c rule edge → ⊥
    by (Step domain) (inl (h, e)) = n h
    by (Step domain) (inr (h, g)) = f domain g
    by (Stop r o) h = h

-- an output that is no URI gives no end
pub no_uri : OneOutput → (c : Client) (rule : Naptr) (output : List ℕ) → HasOutput rule c.string output → (IsUri output → ⊥)
    → (edge : Edge) → GivesAs kind.TerminalUri c rule edge → ⊥
no_uri one c rule output h n edge g = by edge g.yields
  where
    by : (edge : Edge) → Yields kind.TerminalUri c rule edge → ⊥
    by (Step domain) g = g
    by (Stop r (Uri bytes)) (e, k, u) =
        let same : bytes ≡ output = one_output one rule c.string bytes output k h in
        n (subst (λ b. IsUri b) same u)
    by (Stop r (Target l name)) g = g
    by (Stop r Unserved) g = g
