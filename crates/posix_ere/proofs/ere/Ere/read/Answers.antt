use Rattle.std.proofs.Common.{◌≡◌, arith, refl, rules}
use Rattle.std.specs.Result.{IsOkAnd}
use Rattle.posix_ere.specs.Nodes.{whole}
use Rattle.posix_ere.specs.Grammar.{Reads}
use Rattle.posix_ere.specs.Answers.{IsFaultOf, IsFaultAt}
use Rattle.posix_ere.specs.Machine.{state_of, finish, top_of, Ends}
use Rattle.posix_ere.proofs.ReadingLemmas.{going_more, fault_stuck, exact_stuck, all_ran, numbered, whole_reads}
use Rattle.posix_ere.proofs.ReadingLemmas.{fault_end, exact_tree, exact_end, weak_ok, weak_err, either_way}
use Rattle.posix_ere.proofs.ere.Ere.read.Goals as goal

pub returns-in_err-read-clause-fault : goal.returns-in_err-read-clause-fault
returns-in_err-read-clause-fault g c =
    let h = fault_stuck c.args.text.now c.loop-at.at
    (state_of c.loop-at.reader) c.in_err-read.field-0.0 c.loop-at.invariant
    (omega arith) c.in_err-read.ensures.stops in
    search rules

pub returns-in_err-read-clause-exact : goal.returns-in_err-read-clause-exact
returns-in_err-read-clause-exact g c t r =
    let h = exact_stuck c.args.text.now c.loop-at.at
    (state_of c.loop-at.reader) c.in_err-read.field-0.0 c.loop-at.invariant
    (omega arith) c.in_err-read.ensures.stops t r in
    search rules

pub loop-at-preserved : goal.loop-at-preserved
loop-at-preserved g c =
    going_more c.args.text.now c.loop-at.at _ (state_of c.loop-at.reader)
    (state_of c.read.new.self) c.loop-at.invariant (omega arith) refl c.in_ok-read.ensures.ok

pub finish-requires-clause-numbered : goal.finish-requires-clause-numbered
finish-requires-clause-numbered g c =
    let ran = all_ran c.args.text.now c.loop-at.at (state_of c.loop-at.reader) c.loop-at.invariant (omega arith) in
    numbered c.args.text.now (state_of c.loop-at.reader) ran

pub returns-clause-reads : goal.returns-clause-reads
returns-clause-reads g c =
    let s = state_of c.loop-at.reader in
    let ran = all_ran c.args.text.now c.loop-at.at s c.loop-at.invariant (omega arith) in
    weak_ok c.finish.result (λ ere. IsOkAnd (finish s) (λ stack. whole ere ≡ top_of stack)) (λ ere. Reads c.args.text.now (whole ere)) c.finish.ensures.ok
    (λ ere h. whole_reads c.args.text.now s (whole ere) ran h)

pub returns-clause-fault : goal.returns-clause-fault
returns-clause-fault g c =
    let s = state_of c.loop-at.reader in
    let ran = all_ran c.args.text.now c.loop-at.at s c.loop-at.invariant (omega arith) in
    weak_err c.finish.result (λ e. Ends _ e (finish s)) (IsFaultOf c.args.text.now) c.finish.ensures.stops
    (λ e h. fault_end c.args.text.now _ s e (omega arith) ran h)

pub returns-clause-exact : goal.returns-clause-exact
returns-clause-exact g c t r =
    let s = state_of c.loop-at.reader in
    let ran = all_ran c.args.text.now c.loop-at.at s c.loop-at.invariant (omega arith) in
    either_way c.finish.result (λ ere. whole ere ≡ t) (IsFaultAt t)
    (weak_ok c.finish.result (λ ere. IsOkAnd (finish s) (λ stack. whole ere ≡ top_of stack)) (λ ere. whole ere ≡ t) c.finish.ensures.ok
    (λ ere h. exact_tree c.args.text.now s (whole ere) ran h t r))
    (weak_err c.finish.result (λ e. Ends _ e (finish s)) (IsFaultAt t) c.finish.ensures.stops (λ e h. exact_end c.args.text.now _ s e (omega arith) ran h t r))
