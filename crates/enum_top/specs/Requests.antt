-- What the words come to over what the objects tell (this project's own).
use Rattle.std.specs.Prelude.{◌≡◌, ◌⊎◌, ℕ, List, []}
use Rattle.request_words.specs.Words.{Means}
use Rattle.request_words.specs.declared.request.Request.{Request}
use Rattle.request_words.specs.declared.request.Request.TheVariants as request
use Rattle.enum_top.specs.Resolving.{resolve_work}
use Rattle.enum_top.specs.Showing.{show_work}
use Rattle.enum_top.specs.Verdicts.{Told, Verdict, Work, gain_of}
use Rattle.enum_top.specs.declared.objects.Object.{Object}

-- the work of a request, a line each
abbrev pub work_of : List (List ℕ) → Request → Work
work_of words (request.Resolve asked) = resolve_work words asked
work_of words request.Show = show_work

-- the words are a request that uses an object
abbrev pub Need : List (List ℕ) → Object → Type 0
Need words object = (asked : Request) × Means words asked × (work_of words asked).uses object

-- the words are a request that comes to this
pub record ComesTo (told : Told) (words : List (List ℕ)) (verdict : Verdict) : Type 0 where
  pub asked : Request
  pub means : Means words asked
  pub answers : (work_of words asked).answers told verdict

-- bytes that the output may have gained where no verdict was reached: none, but for a command that writes as it goes
abbrev pub Leaves : Told → List (List ℕ) → List ℕ → Type 0
Leaves told words front = (front ≡ []) ⊎ ((asked : Request) × Means words asked × (work_of words asked).fronts told front)

-- a text of which a front is left where the output failed
abbrev pub IsOutput : Told → List (List ℕ) → List ℕ → Type 0
IsOutput told words text = ((verdict : Verdict) × ComesTo told words verdict × (text ≡ gain_of verdict)) ⊎ Leaves told words text
