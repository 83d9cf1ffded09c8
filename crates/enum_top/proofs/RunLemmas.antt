-- From how a run goes to what it always answers.
use Rattle.std.proofs.Common.{◌≡◌, ◌⊎◌, inl, inr, ℕ, List, refl, subst}
use Rattle.enum_base.specs.Causes.{Blames, Rose}
use Rattle.enum_base.specs.Outside.{SinkState}
use Rattle.enum_base.specs.Writing.{Takes}
use Rattle.request_words.proofs.ReadingLemmas.{one_request}
use Rattle.request_words.specs.Words.{Means}
use Rattle.request_words.specs.declared.request.Request.{Request}
use Rattle.enum_top.specs.FaultLines.{line_of}
use Rattle.enum_top.specs.Requests.{ComesTo, Need, work_of}
use Rattle.enum_top.specs.Running.{EndsWith, Runs}
use Rattle.enum_top.specs.Verdicts.{AreTold, Told, Verdict}
use Rattle.enum_top.specs.Verdicts.Verdict.{prints, refuses}
use Rattle.enum_top.specs.declared.objects.Object.{Object}
use Rattle.enum_top.specs.declared.objects.Object.TheVariants.{Shelf, Input, Output}
use Rattle.enum_top.specs.declared.status.Status.{Status}
use Rattle.enum_top.specs.declared.status.Status.TheVariants.{Ended, Refused}
use Rattle.enum_top.specs.declared.why.Why.{Why}
use Rattle.enum_top.specs.declared.why.Why.TheVariants.{Usage, Judged, Outside, Memory}

-- the words come to this verdict, and they mean this request
answers_of : (told : Told) (words : List (List ℕ)) (asked : Request) (verdict : Verdict) → Means words asked
    → ComesTo told words verdict → (work_of words asked).answers told verdict
answers_of told words asked verdict means c =
    subst (λ (r : Request). (work_of words r).answers told verdict) (one_request words c.asked asked c.means means) c.answers

-- the words use this object, and they mean this request
uses_of : (words : List (List ℕ)) (asked : Request) (object : Object) → Means words asked → Need words object → (work_of words asked).uses object
uses_of words asked object means (other, other_means, used) =
    subst (λ (r : Request). (work_of words r).uses object) (one_request words other asked other_means means) used

-- the law that over told objects a request comes to one verdict
abbrev pub HasOneVerdict : Type 0
HasOneVerdict = (told : Told) (words : List (List ℕ)) (asked : Request) (one other : Verdict)
    → AreTold (work_of words asked) told → (work_of words asked).answers told one
    → (work_of words asked).answers told other → one ≡ other

module _ (told : Told) (words : List (List ℕ)) (out out' err err' : SinkState) (end : Status)
    (runs : Runs told words out out' end) (line : (why : Why) → end ≡ Refused why → Takes err err' (line_of words why))
    (asked : Request) (means : Means words asked)
    (calm : (object : Object) → (work_of words asked).uses object → end ≡ Refused (Outside object) → ⊥)
    (written : end ≡ Refused (Outside Output) → ⊥) where
  failed : (object : Object) → end ≡ Refused (Outside object) → Need words object ⊎ (object ≡ Output) → ⊥
  failed object e (inl need) = calm object (uses_of words asked object means need) e
  failed object e (inr is) = written (subst (λ (o : Object). end ≡ Refused (Outside o)) is e)

  pub ends_answered : ((verdict : Verdict) × (work_of words asked).answers told verdict × EndsWith words verdict end out out' err err') ⊎ (end ≡ Refused Memory)
  ends_answered = at end refl
    where
      at : (status : Status) → end ≡ status
          → ((verdict : Verdict) × (work_of words asked).answers told verdict
          × EndsWith words verdict end out out' err err') ⊎ (end ≡ Refused Memory)
      at (Ended ending) e =
          let found = runs.printed ending e in
          inl (prints ending found.0, answers_of told words asked (prints ending found.0) means found.1, (e, found.2))
      at (Refused Usage) e = absurd (runs.usage e (asked, means))
      at (Refused (Judged cause)) e =
          let found = runs.judged cause e in
          inl (refuses found.0 cause, answers_of told words asked (refuses found.0 cause) means found.1, (e, found.2, line (Judged cause) e))
      at (Refused (Outside object)) e = absurd (failed object e (runs.failed object e))
      at (Refused Memory) e = inr e

  pub ends_always : HasOneVerdict → (verdict : Verdict) → AreTold (work_of words asked) told
      → (work_of words asked).answers told verdict
      → EndsWith words verdict end out out' err err' ⊎ (end ≡ Refused Memory)
  ends_always law verdict seen h = at ends_answered
    where
      at : ((other : Verdict) × (work_of words asked).answers told other × EndsWith words other end out out' err err')
          ⊎ (end ≡ Refused Memory) → EndsWith words verdict end out out' err err' ⊎ (end ≡ Refused Memory)
      at (inl (other, a, ends)) = inl (subst (λ (v : Verdict). EndsWith words v end out out' err err') (law told words asked other verdict seen a h) ends)
      at (inr wanting) = inr wanting

-- no object that is used failed
pub calm_objects : (Used : Object → Type 0) (end : Status) (shelf shelf' input input' out out' : ℕ)
    → (Used Shelf → Rose shelf shelf' → ⊥) → (Used Input → Rose input input' → ⊥) → (Rose out out' → ⊥)
    → Blames shelf shelf' (end ≡ Refused (Outside Shelf)) → Blames input input' (end ≡ Refused (Outside Input))
    → Blames out out' (end ≡ Refused (Outside Output)) → (object : Object) → Used object
    → end ≡ Refused (Outside object) → ⊥
calm_objects Used end shelf shelf' input input' out out' calm_shelf calm_input calm_out b d f Shelf used e = calm_shelf used (b.only e)
calm_objects Used end shelf shelf' input input' out out' calm_shelf calm_input calm_out b d f Input used e = calm_input used (d.only e)
calm_objects Used end shelf shelf' input input' out out' calm_shelf calm_input calm_out b d f Output used e = calm_out (f.only e)
