-- From the text of a request to what the run of it comes to.
use Rattle.std.proofs.Common.{◌≡◌, inl, inr, ℕ, List, [], take, Ok, Err, refl, sym, ap, subst}
use Rattle.enum_base.specs.Outside.{SinkState}
use Rattle.enum_base.specs.Writing.{Gains}
use Rattle.enum_base.proofs.OutsideLemmas.{with_more-nil}
use Rattle.request_words.proofs.ReadingLemmas.{one_request}
use Rattle.request_words.specs.Words.{IsRequest, Means}
use Rattle.request_words.specs.declared.request.Request.{Request}
use Rattle.enum_top.specs.Requests.{work_of}
use Rattle.enum_top.specs.Running.{DoesWork, HasNoVerdict, Runs}
use Rattle.enum_top.specs.Verdicts.{Told}
use Rattle.enum_top.specs.Verdicts.Verdict.{prints}
use Rattle.enum_top.specs.declared.cause.Cause.{Cause}
use Rattle.enum_top.specs.declared.objects.Object.TheVariants.{Output}
use Rattle.enum_top.specs.declared.status.Ending.{Ending}
use Rattle.enum_top.specs.declared.status.Printed.{Printed}
use Rattle.enum_top.specs.declared.status.Status.{Status}
use Rattle.enum_top.specs.declared.status.Status.TheVariants.{Ended, Refused}
use Rattle.enum_top.specs.declared.why.Why.{Why}
use Rattle.enum_top.specs.declared.why.Why.TheVariants.{Usage, Judged, Outside}

module _ (told : Told) (words : List (List ℕ)) (asked : Request) (means : Means words asked) where
  -- of the one request that words mean
  early_of : (end : Status) → ((cause : Cause) → (work_of words asked).breaks cause → end ≡ Refused (Judged cause))
      → (other : Request) (cause : Cause) → Means words other → (work_of words other).breaks cause
      → end ≡ Refused (Judged cause)
  early_of end early other cause m b =
      early cause (subst (λ (r : Request). (work_of words r).breaks cause) (one_request words other asked m means) b)

  -- the work was stopped
  pub stopped_short : (out : SinkState) (why : Why) → DoesWork told (work_of words asked) (Err why) → Runs told words out out (Refused why)
  stopped_short out why d = record {
    usage = λ e. absurd (d.does.asked (let same : why ≡ Usage = cc e in ap Err same));
    no_request = λ none. absurd (none (asked, means));
    early = early_of (Refused why) (λ cause b. let same : why ≡ Judged cause = cc (d.early cause b) in ap Refused same);
    printed = λ ending e. absurd (cc e);
    judged = λ cause e. (
      [],
      record {
        asked = asked;
        means = means;
        answers = d.does.stopped cause (let same : why ≡ Judged cause = cc e in ap Err same);
      },
      sym (with_more-nil out.held),
    );
    failed = λ object e. inl (asked, means, d.does.failed object (let same : why ≡ Outside object = cc e in ap Err same));
    cut = λ e. absurd (d.does.unwritten (let same : why ≡ Outside Output = cc e in ap Err same));
    kept = λ other k e. ([], inl refl, sym (with_more-nil out.held));
  }

  -- the text was printed
  pub printed_whole : (out out' : SinkState) (printed : Printed) (text : List ℕ)
      → DoesWork told (work_of words asked) (Ok printed) → text ≡ printed.text → Gains out out' text
      → Runs told words out out' (Ended printed.ending)
  printed_whole out out' printed text d same gains = record {
    usage = λ e. absurd (cc e);
    no_request = λ none. absurd (none (asked, means));
    early = early_of (Ended printed.ending) (λ cause b. absurd (cc (d.early cause b)));
    printed = λ ending e. (
      printed.text,
      record {
        asked = asked;
        means = means;
        answers = let is : printed.ending ≡ ending = cc e
            in subst (λ (o : Ending). (work_of words asked).answers told (prints o printed.text)) is
            (d.does.went printed refl);
      },
      subst (λ (t : List ℕ). Gains out out' t) same gains,
    );
    judged = λ cause e. absurd (cc e);
    failed = λ object e. absurd (cc e);
    cut = λ e. absurd (cc e);
    kept = λ other k e. absurd (cc e);
  }

  -- the output failed
  pub cut_short : (out out' : SinkState) (printed : Printed) (text : List ℕ)
      → DoesWork told (work_of words asked) (Ok printed) → text ≡ printed.text
      → ((n : ℕ) × Gains out out' (take n text)) → Runs told words out out' (Refused (Outside Output))
  cut_short out out' printed text d same (n, gains) = record {
    usage = λ e. absurd (cc e);
    no_request = λ none. absurd (none (asked, means));
    early = early_of (Refused (Outside Output)) (λ cause b. absurd (cc (d.early cause b)));
    printed = λ ending e. absurd (cc e);
    judged = λ cause e. absurd (cc e);
    failed = λ object e. inr (cc e);
    cut = λ e. (
      printed.text,
      inl (
        prints printed.ending printed.text,
        record { asked = asked; means = means; answers = d.does.went printed refl },
        refl,
      ),
      (n, subst (λ (t : List ℕ). Gains out out' (take n t)) same gains),
    );
    kept = λ other k e. absurd (not_kept other k (cc e));
  }
    where
      not_kept : (why : Why) → HasNoVerdict why → Outside Output ≡ why → ⊥
      not_kept why k e = subst HasNoVerdict (sym e) k

-- words that mean nothing
pub means_nothing : (told : Told) (words : List (List ℕ)) (out : SinkState) → ¬ IsRequest words → Runs told words out out (Refused Usage)
means_nothing told words out none = record {
  usage = λ e. none;
  no_request = λ n. refl;
  early = λ asked cause m b. absurd (none (asked, m));
  printed = λ ending e. absurd (cc e);
  judged = λ cause e. absurd (cc e);
  failed = λ object e. absurd (cc e);
  cut = λ e. absurd (cc e);
  kept = λ other k e. ([], inl refl, sym (with_more-nil out.held));
}
