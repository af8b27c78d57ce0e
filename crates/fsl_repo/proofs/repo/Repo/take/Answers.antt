use Rattle.std.proofs.Common.{rules, ◌≡◌, ◌≤◌, ◌+◌, ◌^◌, true, false, length, None, sym, ap, subst, ◌∙◌, arith}
use Rattle.std.specs.Prelude.{nat_lt, Err}
use Rattle.std.specs.Option.{option_copied}
use Rattle.std.specs.Str.{bytes_eq}
use Rattle.std.proofs.lemmas.Bool.{le-ltb, lt-ltb}
use Rattle.fsl_name.specs.Name.{name_of}
use Rattle.fsl_blobs.specs.Fold.{contents}
use Rattle.fsl_blobs.specs.Held.{state_of}
use Rattle.fsl_blobs.specs.declared.BlobState.TheVariants as blob
use Rattle.fsl_repo.specs.declared.ArriveFault.TheVariants as arrive_fault
use Rattle.fsl_repo.specs.Machine.{ArriveStep, now}
use Rattle.fsl_repo.proofs.Arrivals.{stopped_step, large_step, wrong_step, shunned_step, public_step, private_step, published_step, stored_step, same_name}
use Rattle.fsl_repo.proofs.Touched.{few_within}
use Rattle.fsl_repo.proofs.repo.Repo.take.Goals as goal

pub returns-in-Some-clause-step : goal.returns-in-Some-clause-step
returns-in-Some-clause-step g c =
    stopped_step c.args.self.now.seen.state c.args.name (option_copied c.args.receipt) c.args.bytes.now c.args.private c.in-Some.faults (ap (λ v. v.seen.state.stopped) (sym c.self.view_is) ∙ sym c.in-Some.ensures)

pub returns-then-size-gt-MOST_OF_ARTIFACT-clause-step : goal.returns-then-size-gt-MOST_OF_ARTIFACT-clause-step
returns-then-size-gt-MOST_OF_ARTIFACT-clause-step g c =
    let runs : c.args.self.now.seen.state.stopped ≡ None = search rules in
    large_step c.args.self.now.seen.state c.args.name (option_copied c.args.receipt) c.args.bytes.now c.args.private runs (lt-ltb (2 ^ 24) (length c.args.bytes.now) c.if-size-gt-MOST_OF_ARTIFACT.true)

pub returns-then-ne-clause-step : goal.returns-then-ne-clause-step
returns-then-ne-clause-step g c =
    let runs : c.args.self.now.seen.state.stopped ≡ None = search rules in
    let small : nat_lt (2 ^ 24) (length c.args.bytes.now) ≡ false = le-ltb (2 ^ 24) (length c.args.bytes.now) (omega (arith, c.if-size-gt-MOST_OF_ARTIFACT.false)) in
    let wrong : bytes_eq (name_of c.args.bytes.now) c.args.name ≡ false = search rules in
    subst (λ found. ArriveStep c.args.self.now.seen.state c.args.name (option_copied c.args.receipt) c.args.bytes.now c.args.private (Err (arrive_fault.NameWrong found)) c.args.self.now.seen.state) (sym c.of-found.ensures.value) (wrong_step c.args.self.now.seen.state c.args.name (option_copied c.args.receipt) c.args.bytes.now c.args.private runs small wrong)

pub returns-in-Shunned-clause-step : goal.returns-in-Shunned-clause-step
returns-in-Shunned-clause-step g c =
    let runs : c.args.self.now.seen.state.stopped ≡ None = search rules in
    let small : nat_lt (2 ^ 24) (length c.args.bytes.now) ≡ false = le-ltb (2 ^ 24) (length c.args.bytes.now) (omega (arith, c.if-size-gt-MOST_OF_ARTIFACT.false)) in
    let named : bytes_eq (name_of c.args.bytes.now) c.args.name ≡ true = same_name c.args.name (name_of c.args.bytes.now) (search rules) in
    let is : state_of (now c.args.self.now.seen.state) c.args.name ≡ blob.Shunned =
    sym (ap (λ v. state_of (contents v.seen.state.records) c.args.name) c.self.view_is) ∙ sym (ap (λ rs. state_of (contents rs) c.args.name) c.self.invariant.same.records) ∙ sym c.state.ensures ∙ c.in-Shunned.is in
    shunned_step c.args.self.now.seen.state c.args.name (option_copied c.args.receipt) c.args.bytes.now c.args.private runs small named is

pub returns-in-Public-clause-step : goal.returns-in-Public-clause-step
returns-in-Public-clause-step g c =
    let runs : c.args.self.now.seen.state.stopped ≡ None = search rules in
    let small : nat_lt (2 ^ 24) (length c.args.bytes.now) ≡ false = le-ltb (2 ^ 24) (length c.args.bytes.now) (omega (arith, c.if-size-gt-MOST_OF_ARTIFACT.false)) in
    let named : bytes_eq (name_of c.args.bytes.now) c.args.name ≡ true = same_name c.args.name (name_of c.args.bytes.now) (search rules) in
    let is : state_of (now c.args.self.now.seen.state) c.args.name ≡ blob.Public c.in-Public.size =
    sym (ap (λ v. state_of (contents v.seen.state.records) c.args.name) c.self.view_is) ∙ sym (ap (λ rs. state_of (contents rs) c.args.name) c.self.invariant.same.records) ∙ sym c.state.ensures ∙ c.in-Public.is in
    public_step c.args.self.now.seen.state c.args.name (option_copied c.args.receipt) c.args.bytes.now c.args.private runs small named c.shunned_are_not_held.ensures c.in-Public.size is

pub returns-in-Private-clause-step : goal.returns-in-Private-clause-step
returns-in-Private-clause-step g c =
    let runs : c.args.self.now.seen.state.stopped ≡ None = search rules in
    let small : nat_lt (2 ^ 24) (length c.args.bytes.now) ≡ false = le-ltb (2 ^ 24) (length c.args.bytes.now) (omega (arith, c.if-size-gt-MOST_OF_ARTIFACT.false)) in
    let named : bytes_eq (name_of c.args.bytes.now) c.args.name ≡ true = same_name c.args.name (name_of c.args.bytes.now) (search rules) in
    let is : state_of (now c.args.self.now.seen.state) c.args.name ≡ blob.Private c.in-Private.size =
    sym (ap (λ v. state_of (contents v.seen.state.records) c.args.name) c.self.view_is) ∙ sym (ap (λ rs. state_of (contents rs) c.args.name) c.self.invariant.same.records) ∙ sym c.state.ensures ∙ c.in-Private.is in
    private_step c.args.self.now.seen.state c.args.name (option_copied c.args.receipt) c.args.bytes.now c.args.private runs small named c.shunned_are_not_held.ensures c.in-Private.size is c.if-private.true

pub returns-in-Private-2-clause-step : goal.returns-in-Private-2-clause-step
returns-in-Private-2-clause-step g c =
    let runs : c.args.self.now.seen.state.stopped ≡ None = search rules in
    let small : nat_lt (2 ^ 24) (length c.args.bytes.now) ≡ false = le-ltb (2 ^ 24) (length c.args.bytes.now) (omega (arith, c.if-size-gt-MOST_OF_ARTIFACT.false)) in
    let named : bytes_eq (name_of c.args.bytes.now) c.args.name ≡ true = same_name c.args.name (name_of c.args.bytes.now) (search rules) in
    let is : state_of (now c.args.self.now.seen.state) c.args.name ≡ blob.Private c.in-Private.size =
    sym (ap (λ v. state_of (contents v.seen.state.records) c.args.name) c.self.view_is) ∙ sym (ap (λ rs. state_of (contents rs) c.args.name) c.self.invariant.same.records) ∙ sym c.state.ensures ∙ c.in-Private.is in
    published_step c.args.self.now.seen.state c.args.name (option_copied c.args.receipt) c.args.bytes.now c.args.private runs small named c.shunned_are_not_held.ensures c.in-Private.size is c.if-private.false c.publish.result c.publish.new.self.seen.state c.publish.ensures.step

pub returns-in-Absent-clause-step : goal.returns-in-Absent-clause-step
returns-in-Absent-clause-step g c =
    let runs : c.args.self.now.seen.state.stopped ≡ None = search rules in
    let small : nat_lt (2 ^ 24) (length c.args.bytes.now) ≡ false = le-ltb (2 ^ 24) (length c.args.bytes.now) (omega (arith, c.if-size-gt-MOST_OF_ARTIFACT.false)) in
    let named : bytes_eq (name_of c.args.bytes.now) c.args.name ≡ true = same_name c.args.name (name_of c.args.bytes.now) (search rules) in
    let is : state_of (now c.args.self.now.seen.state) c.args.name ≡ blob.Absent =
    sym (ap (λ v. state_of (contents v.seen.state.records) c.args.name) c.self.view_is) ∙ sym (ap (λ rs. state_of (contents rs) c.args.name) c.self.invariant.same.records) ∙ sym c.state.ensures ∙ c.in-Absent.is in
    stored_step c.args.self.now.seen.state c.args.name (option_copied c.args.receipt) c.args.bytes.now c.args.private runs small named is c.store.result c.store.new.self.seen.state c.store.ensures.step

-- ---- touches

pub returns-in-Some-clause-cost : goal.returns-in-Some-clause-cost
returns-in-Some-clause-cost g c = few_within c.args.self.now.seen.items c.args.name c.args.private c.args.bytes.now c.args.steps.now c.args.steps.now (omega arith)

pub returns-then-size-gt-MOST_OF_ARTIFACT-clause-cost : goal.returns-then-size-gt-MOST_OF_ARTIFACT-clause-cost
returns-then-size-gt-MOST_OF_ARTIFACT-clause-cost g c = few_within c.args.self.now.seen.items c.args.name c.args.private c.args.bytes.now c.args.steps.now c.args.steps.now (omega arith)

pub returns-then-ne-clause-cost : goal.returns-then-ne-clause-cost
returns-then-ne-clause-cost g c = few_within c.args.self.now.seen.items c.args.name c.args.private c.args.bytes.now c.args.steps.now c.args.steps.now (omega arith)

pub returns-in-Shunned-clause-cost : goal.returns-in-Shunned-clause-cost
returns-in-Shunned-clause-cost g c = few_within c.args.self.now.seen.items c.args.name c.args.private c.args.bytes.now c.args.steps.now c.args.steps.now (omega arith)

pub returns-in-Public-clause-cost : goal.returns-in-Public-clause-cost
returns-in-Public-clause-cost g c = few_within c.args.self.now.seen.items c.args.name c.args.private c.args.bytes.now c.args.steps.now c.args.steps.now (omega arith)

pub returns-in-Private-clause-cost : goal.returns-in-Private-clause-cost
returns-in-Private-clause-cost g c = few_within c.args.self.now.seen.items c.args.name c.args.private c.args.bytes.now c.args.steps.now c.args.steps.now (omega arith)

pub returns-in-Private-2-clause-cost : goal.returns-in-Private-2-clause-cost
returns-in-Private-2-clause-cost g c =
    let cost : c.publish.new.steps ≤ c.args.steps.now + 16 = c.publish.ensures.cost in
    few_within c.args.self.now.seen.items c.args.name c.args.private c.args.bytes.now c.args.steps.now c.publish.new.steps (omega (arith, cost))
