-- The work of every request comes to one verdict.
use Rattle.std.proofs.Common.{ℕ, List}
use Rattle.request_words.specs.declared.request.Request.{Request}
use Rattle.request_words.specs.declared.request.Request.TheVariants as request
use Rattle.enum_top.specs.Requests.{work_of}
use Rattle.enum_top.specs.Verdicts.{IsSound}
use Rattle.enum_top.proofs.LawLemmas.{Laws}
use Rattle.enum_top.proofs.ResolveLemmas.{IsSound-resolve}
use Rattle.enum_top.proofs.ShowLemmas.{IsSound-show}

-- a line each
pub IsSound-work : Laws → (words : List (List ℕ)) (asked : Request) → IsSound (work_of words asked)
IsSound-work laws words (request.Resolve asked) = IsSound-resolve laws words asked
IsSound-work laws words request.Show = IsSound-show laws
