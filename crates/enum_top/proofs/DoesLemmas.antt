-- How stages that are done make up the work of a command.
use Rattle.std.proofs.Common.{◌≡◌, ℕ, ◌<◌, ◌≤◌, ◌⊎◌, inl, inr, Result, Ok, Err, refl, ap, arith}
use Rattle.std.proofs.lemmas.Result.{err_from_is_err_and}
use Rattle.std.specs.Result.{IsErrAnd}
use Rattle.enum_base.specs.Causes.{Blames}
use Rattle.enum_top.specs.Running.{Does}
use Rattle.enum_top.specs.Verdicts.{AtOnce, whole}
use Rattle.enum_top.specs.declared.cause.Cause.{Cause}
use Rattle.enum_top.specs.declared.why.Why.{Why}
use Rattle.enum_top.specs.declared.why.Why.TheVariants.{Judged}
use Rattle.enum_top.specs.declared.objects.Object.{Object}
use Rattle.enum_top.specs.declared.status.Printed.{Printed}

-- what a stage gave
pub got : {A : Type 0} {Used : Object → Type 0} {One : Result A Cause → Type 0} {value : A} → Does Used One (Ok value) → One (Ok value)
got {value = value} d = d.went value refl

-- a value that a stage gives
pub done : {A : Type 0} {Used : Object → Type 0} {One : Result A Cause → Type 0} {value : A} → One (Ok value) → Does Used One (Ok value)
done {value = value} is = record {
  went = λ v e. let same : v ≡ value = cc e in rw same is;
  stopped = λ cause e. absurd (cc e);
  failed = λ object e. absurd (cc e);
  asked = λ e. absurd (cc e);
  unwritten = λ e. absurd (cc e);
}

-- a cause that a stage stops by
pub ill_formed : {A : Type 0} {Used : Object → Type 0} {One : Result A Cause → Type 0} {cause : Cause} → One (Err cause) → Does Used One (Err (Judged cause))
ill_formed {cause = cause} is = record {
  went = λ v e. absurd (cc e);
  stopped = λ c e. let same : c ≡ cause = cc e in rw same is;
  failed = λ object e. absurd (cc e);
  asked = λ e. absurd (cc e);
  unwritten = λ e. absurd (cc e);
}

-- the work is stopped by what a part of it was stopped by
pub stopped_by : {A B : Type 0} {Used Used' : Object → Type 0} {One : Result A Cause → Type 0} {More : Result B Cause
    → Type 0} {why : Why} → ((object : Object) → Used object → Used' object)
    → ((cause : Cause) → One (Err cause) → More (Err cause)) → Does Used One (Err why) → Does Used' More (Err why)
stopped_by uses more one = record {
  went = λ v e. absurd (cc e);
  stopped = λ cause e. more cause (one.stopped cause (ap Err (cc e)));
  failed = λ object e. uses object (one.failed object (ap Err (cc e)));
  asked = λ e. one.asked (ap Err (cc e));
  unwritten = λ e. one.unwritten (ap Err (cc e));
}

-- what is done and stopped so is done and stopped as more says
pub done_as : {A : Type 0} {Used Used' : Object → Type 0} {One : Result A Cause → Type 0} {More : Result A Cause
    → Type 0} {result : Result A Why} → ((object : Object) → Used object → Used' object)
    → ((value : A) → One (Ok value) → More (Ok value)) → ((cause : Cause) → One (Err cause) → More (Err cause))
    → Does Used One result → Does Used' More result
done_as uses go stop one = record {
  went = λ v e. go v (one.went v e);
  stopped = λ cause e. stop cause (one.stopped cause e);
  failed = λ object e. uses object (one.failed object e);
  asked = λ e. one.asked e;
  unwritten = λ e. one.unwritten e;
}

-- the stages of a command come to its verdict
pub as_whole : {Used : Object → Type 0} {Stages : Result Printed Cause → Type 0} {result : Result Printed Why}
    → Does Used Stages result → Does Used (λ printed. AtOnce Stages (whole printed)) result
as_whole d = record {
  went = λ v e. record { result = Ok v; comes = d.went v e; is = refl };
  stopped = λ cause e. record { result = Err cause; comes = d.stopped cause e; is = refl };
  failed = d.failed;
  asked = d.asked;
  unwritten = d.unwritten;
}

-- what `?` passes on
pub passed : {A : Type 0} {Used : Object → Type 0} {One : Result A Cause → Type 0} {result : Result A Why} {why : Why}
    → IsErrAnd result (λ given. given ≡ why) → Does Used One (Err why) → Does Used One result
passed {result = result} is d = let p = err_from_is_err_and result is in rw (p.1, p.2) d

-- what is not blamed has not failed
pub unblamed : (before now : ℕ) (Blamed : Type 0) → (Blamed → ⊥) → Blames before now Blamed → now ≡ before
unblamed before now Blamed no_fault b = by_cases (greater before now b.later)
  where
    greater : (n m : ℕ) → n ≤ m → (n < m) ⊎ (m ≡ n)
    greater n m h = grind arith

    by_cases : (before < now) ⊎ (now ≡ before) → now ≡ before
    by_cases (inl less) = absurd (no_fault (b.always less))
    by_cases (inr same) = same
