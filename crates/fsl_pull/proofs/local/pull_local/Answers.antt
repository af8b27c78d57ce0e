use Rattle.std.proofs.Common.{◌≡◌, ℕ, ◌+◌, ◌-◌, ◌<◌, List, Option, Some, None, Result, Ok, Err, refl, sym, ap, subst, ◌∙◌, arith}
use Rattle.std.specs.Prelude.{IfOk, OnOk}
use Rattle.fsl_repo.specs.Machine.{now, unclustered_names}
use Rattle.fsl_pull.specs.declared.PullFault.{PullFault}
use Rattle.fsl_pull.specs.Steps.{NamesRise}
use Rattle.fsl_pull.proofs.LocalSync.{LocalAt, goes, peer_stays, ends_later, ends_well, fails, gives_up}
use Rattle.fsl_pull.proofs.LocalEnds.{rounds_left}
use Rattle.fsl_pull.proofs.GivenLemmas.{only_read_none, only_read_on}
use Rattle.fsl_pull.proofs.LocalMore.{same_project, project_refused, stopped_refused, local_wants_memory, local_begins, local_turn_is, peer_counts}
use Rattle.fsl_pull.proofs.local.pull_local.Goals as goal

abbrev Answer : Type 0
Answer = Result (Option (List (List ℕ))) PullFault

pub returns-in-Some-clause-pulls : goal.returns-in-Some-clause-pulls
returns-in-Some-clause-pulls g c = project_refused g.D.Disk.state c.args.repo.now.disk c.args.repo.now.seen c.args.peer.now.seen (λ f model left. g.met.D.Disk.only_now c.args.repo.now.disk f model left) c.in-Some.found (sym c.other_project.ensures ∙ c.in-Some.is)

pub returns-in-Some-stopped-clause-pulls : goal.returns-in-Some-stopped-clause-pulls
returns-in-Some-stopped-clause-pulls g c =
    stopped_refused g.D.Disk.state c.args.repo.now.disk c.args.repo.now.seen c.args.peer.now.seen (λ f model left. g.met.D.Disk.only_now c.args.repo.now.disk f model left) c.in-Some-stopped.faults
    (same_project c.args.repo.now.seen.state c.args.peer.now.seen.state (sym c.other_project.ensures ∙ c.in-None.is)) (sym c.stopped.ensures ∙ c.in-Some-stopped.is)

pub returns-in-Err-clause-pulls : goal.returns-in-Err-clause-pulls
returns-in-Err-clause-pulls g c = local_wants_memory g.D.Disk.state c.args.repo.now.disk c.args.repo.now.seen c.args.peer.now.seen (λ f model left. g.met.D.Disk.only_now c.args.repo.now.disk f model left)

pub returns-in-Err-wanted-clause-pulls : goal.returns-in-Err-wanted-clause-pulls
returns-in-Err-wanted-clause-pulls g c = local_wants_memory g.D.Disk.state c.args.repo.now.disk c.args.repo.now.seen c.args.peer.now.seen (λ f model left. g.met.D.Disk.only_now c.args.repo.now.disk f model left)

pub loop-number-init : goal.loop-number-init
loop-number-init g c =
    let none : c.args.repo.now.seen.state.stopped ≡ None = sym c.stopped.ensures ∙ c.in-None-stopped.is in
    record {
      at = local_begins g.D.Disk.state c.args.peer.now.seen c.args.repo.now.disk c.args.repo.now.seen c.in-Ok-wanted.names (λ f model left. g.met.D.Disk.only_now c.args.repo.now.disk f model left) c.in-Ok-wanted.ensures.names;
      may = record { project = same_project c.args.repo.now.seen.state c.args.peer.now.seen.state (sym c.other_project.ensures ∙ c.in-None.is); runs = none };
      runs = none;
      rising = c.in-Ok-wanted.ensures.rising;
      peer = refl;
      only = only_read_none g.P.Disk.state c.args.peer.now;
    }

pub returns-in-None-checked_add-clause-pulls : goal.returns-in-None-checked_add-clause-pulls
returns-in-None-checked_add-clause-pulls g c =
    gives_up g.D.Disk.state c.args.peer.now.seen c.args.repo.now.disk c.args.repo.now.seen c.loop-number.invariant.may (c.is_whole.ensures.seen).items (c.is_whole-2.ensures.seen).items
    c.loop-number.repo.disk c.loop-number.repo.seen c.loop-number.names c.loop-number.round c.loop-number.invariant.at c.loop-number.peer.seen

pub overflow_sub-result : goal.overflow_sub-result
overflow_sub-result g c =
    let is : c.local_round.result ≡ Ok None = c.in-Ok-None.is ∙ ap (λ (o : Option (List (List ℕ))). Ok o) c.in-Ok-None.field-0-is in
    let later = ends_later g.D.Disk.state c.args.peer.now.seen c.args.repo.now.disk c.args.repo.now.seen c.loop-number.invariant.may (c.is_whole.ensures.seen).items (c.is_whole-2.ensures.seen).items
    c.loop-number.repo.disk c.loop-number.repo.seen c.loop-number.names c.loop-number.round c.loop-number.invariant.at c.local_round.new.repo.disk c.local_round.new.repo.seen c.local_round.new.peer.seen (local_turn_is c.loop-number.peer.seen.state c.args.peer.now.seen.state c.items.result.now (unclustered_names c.args.peer.now.seen.items) c.items-in-loop-number.result.now c.loop-number.names (g.D.Disk.state c.loop-number.repo.disk) (g.D.Disk.state c.local_round.new.repo.disk) c.loop-number.repo.seen c.local_round.new.repo.seen (c.local_round.new.repo.disk ≡ c.loop-number.repo.disk) c.local_round.result (Ok None) c.local_round.new.peer.seen.state
    c.loop-number.invariant.peer (c.items.ensures ∙ c.in-Ok.ensures) c.items-in-loop-number.ensures is c.local_round.ensures.step) in
    omega (arith, later, c.stored-before.ensures, c.stored.ensures)

pub returns-in-Ok-None-clause-pulls : goal.returns-in-Ok-None-clause-pulls
returns-in-Ok-None-clause-pulls g c =
    let is : c.local_round.result ≡ Ok None = c.in-Ok-None.is ∙ ap (λ (o : Option (List (List ℕ))). Ok o) c.in-Ok-None.field-0-is in
    ends_well g.D.Disk.state c.args.peer.now.seen c.args.repo.now.disk c.args.repo.now.seen c.loop-number.invariant.may (c.is_whole.ensures.seen).items (c.is_whole-2.ensures.seen).items
    c.loop-number.repo.disk c.loop-number.repo.seen c.loop-number.names c.loop-number.round c.loop-number.invariant.at c.local_round.new.repo.disk c.local_round.new.repo.seen c.local_round.new.peer.seen c.in-Some-checked_add.number (c.stored.result - c.stored-before.result) (local_turn_is c.loop-number.peer.seen.state c.args.peer.now.seen.state c.items.result.now (unclustered_names c.args.peer.now.seen.items) c.items-in-loop-number.result.now c.loop-number.names (g.D.Disk.state c.loop-number.repo.disk) (g.D.Disk.state c.local_round.new.repo.disk) c.loop-number.repo.seen c.local_round.new.repo.seen (c.local_round.new.repo.disk ≡ c.loop-number.repo.disk) c.local_round.result (Ok None) c.local_round.new.peer.seen.state
    c.loop-number.invariant.peer (c.items.ensures ∙ c.in-Ok.ensures) c.items-in-loop-number.ensures is c.local_round.ensures.step) (omega (arith, c.in-Some-checked_add.ensures)) (λ i. c.stored.ensures i - c.stored-before.ensures i)

pub returns-in-Err-local_round-clause-pulls : goal.returns-in-Err-local_round-clause-pulls
returns-in-Err-local_round-clause-pulls g c =
    let is = c.in-Err-local_round.is in
    fails g.D.Disk.state c.args.peer.now.seen c.args.repo.now.disk c.args.repo.now.seen c.loop-number.invariant.may (c.is_whole.ensures.seen).items (c.is_whole-2.ensures.seen).items
    c.loop-number.repo.disk c.loop-number.repo.seen c.loop-number.names c.loop-number.round c.loop-number.invariant.at c.local_round.new.repo.disk c.local_round.new.repo.seen c.local_round.new.peer.seen c.in-Err-local_round.fault (local_turn_is c.loop-number.peer.seen.state c.args.peer.now.seen.state c.items.result.now (unclustered_names c.args.peer.now.seen.items) c.items-in-loop-number.result.now c.loop-number.names (g.D.Disk.state c.loop-number.repo.disk) (g.D.Disk.state c.local_round.new.repo.disk) c.loop-number.repo.seen c.local_round.new.repo.seen (c.local_round.new.repo.disk ≡ c.loop-number.repo.disk) c.local_round.result (Err c.in-Err-local_round.fault) c.local_round.new.peer.seen.state
    c.loop-number.invariant.peer (c.items.ensures ∙ c.in-Ok.ensures) c.items-in-loop-number.ensures is c.local_round.ensures.step)

pub loop-number-smaller : goal.loop-number-smaller
loop-number-smaller g c =
    let is : c.local_round.result ≡ Ok (Some c.in-Ok-Some.next) = c.in-Ok-Some.is ∙ ap (λ (o : Option (List (List ℕ))). Ok o) c.in-Ok-Some.field-0-is in
    let counted : c.in-Some-checked_add.number ≡ c.loop-number.round + 1 = omega (arith, c.in-Some-checked_add.ensures) in
    let there = now c.args.peer.now.seen.state in
    let on = goes g.D.Disk.state c.args.peer.now.seen c.args.repo.now.disk c.args.repo.now.seen c.loop-number.invariant.may (c.is_whole.ensures.seen).items (c.is_whole-2.ensures.seen).items
    c.loop-number.repo.disk c.loop-number.repo.seen c.loop-number.names c.loop-number.round c.loop-number.invariant.at c.local_round.new.repo.disk c.local_round.new.repo.seen c.local_round.new.peer.seen c.in-Ok-Some.next (local_turn_is c.loop-number.peer.seen.state c.args.peer.now.seen.state c.items.result.now (unclustered_names c.args.peer.now.seen.items) c.items-in-loop-number.result.now c.loop-number.names (g.D.Disk.state c.loop-number.repo.disk) (g.D.Disk.state c.local_round.new.repo.disk) c.loop-number.repo.seen c.local_round.new.repo.seen (c.local_round.new.repo.disk ≡ c.loop-number.repo.disk) c.local_round.result (Ok (Some c.in-Ok-Some.next)) c.local_round.new.peer.seen.state
    c.loop-number.invariant.peer (c.items.ensures ∙ c.in-Ok.ensures) c.items-in-loop-number.ensures is c.local_round.ensures.step) c.local_round.ensures.keeps c.local_round.ensures.loaded c.local_round.ensures.later in
    subst (λ (k : ℕ). rounds_left there c.local_round.new.repo.seen.state k < rounds_left there c.loop-number.repo.seen.state c.loop-number.round) (sym counted) on.1

pub loop-number-preserved : goal.loop-number-preserved
loop-number-preserved g c =
    let is : c.local_round.result ≡ Ok (Some c.in-Ok-Some.next) = c.in-Ok-Some.is ∙ ap (λ (o : Option (List (List ℕ))). Ok o) c.in-Ok-Some.field-0-is in
    let counted : c.in-Some-checked_add.number ≡ c.loop-number.round + 1 = omega (arith, c.in-Some-checked_add.ensures) in
    let turn = (local_turn_is c.loop-number.peer.seen.state c.args.peer.now.seen.state c.items.result.now (unclustered_names c.args.peer.now.seen.items) c.items-in-loop-number.result.now c.loop-number.names (g.D.Disk.state c.loop-number.repo.disk) (g.D.Disk.state c.local_round.new.repo.disk) c.loop-number.repo.seen c.local_round.new.repo.seen (c.local_round.new.repo.disk ≡ c.loop-number.repo.disk) c.local_round.result (Ok (Some c.in-Ok-Some.next)) c.local_round.new.peer.seen.state
    c.loop-number.invariant.peer (c.items.ensures ∙ c.in-Ok.ensures) c.items-in-loop-number.ensures is c.local_round.ensures.step) in
    let on = goes g.D.Disk.state c.args.peer.now.seen c.args.repo.now.disk c.args.repo.now.seen c.loop-number.invariant.may (c.is_whole.ensures.seen).items (c.is_whole-2.ensures.seen).items
    c.loop-number.repo.disk c.loop-number.repo.seen c.loop-number.names c.loop-number.round c.loop-number.invariant.at c.local_round.new.repo.disk c.local_round.new.repo.seen c.local_round.new.peer.seen c.in-Ok-Some.next turn c.local_round.ensures.keeps c.local_round.ensures.loaded c.local_round.ensures.later in
    record {
      at = subst (λ (k : ℕ). LocalAt g.D.Disk.state c.args.peer.now.seen c.args.repo.now.disk c.local_round.new.repo.disk c.args.repo.now.seen c.local_round.new.repo.seen c.in-Ok-Some.next k) (sym counted) on.0;
      may = c.loop-number.invariant.may;
      runs = subst (λ (r : Answer). OnOk r (c.local_round.new.repo.seen.state.stopped ≡ None)) is c.local_round.ensures.runs;
      rising = subst (λ (r : Answer). IfOk r NamesRise) is c.local_round.ensures.rising;
      peer = peer_stays g.D.Disk.state c.args.peer.now.seen c.args.repo.now.disk c.args.repo.now.seen c.loop-number.invariant.may (c.is_whole.ensures.seen).items (c.is_whole-2.ensures.seen).items
          c.loop-number.repo.disk c.loop-number.repo.seen c.loop-number.names c.loop-number.round c.loop-number.invariant.at c.local_round.new.repo.disk c.local_round.new.repo.seen c.local_round.new.peer.seen (Some c.in-Ok-Some.next) turn;
      only = only_read_on g.P.Disk.state c.args.peer.now c.loop-number.peer c.local_round.new.peer c.loop-number.invariant.only c.local_round.ensures.peer;
    }

pub returns-in-Some-clause-peer : goal.returns-in-Some-clause-peer
returns-in-Some-clause-peer g c =
    only_read_none g.P.Disk.state c.args.peer.now

pub returns-in-Some-stopped-clause-peer : goal.returns-in-Some-stopped-clause-peer
returns-in-Some-stopped-clause-peer g c =
    only_read_none g.P.Disk.state c.args.peer.now

pub returns-in-Err-clause-peer : goal.returns-in-Err-clause-peer
returns-in-Err-clause-peer g c =
    only_read_none g.P.Disk.state c.args.peer.now

pub returns-in-Err-wanted-clause-peer : goal.returns-in-Err-wanted-clause-peer
returns-in-Err-wanted-clause-peer g c =
    only_read_none g.P.Disk.state c.args.peer.now

pub returns-in-None-checked_add-clause-peer : goal.returns-in-None-checked_add-clause-peer
returns-in-None-checked_add-clause-peer g c =
    c.loop-number.invariant.only

pub returns-in-Ok-None-clause-peer : goal.returns-in-Ok-None-clause-peer
returns-in-Ok-None-clause-peer g c =
    only_read_on g.P.Disk.state c.args.peer.now c.loop-number.peer c.local_round.new.peer c.loop-number.invariant.only c.local_round.ensures.peer

pub returns-in-Err-local_round-clause-peer : goal.returns-in-Err-local_round-clause-peer
returns-in-Err-local_round-clause-peer g c =
    only_read_on g.P.Disk.state c.args.peer.now c.loop-number.peer c.local_round.new.peer c.loop-number.invariant.only c.local_round.ensures.peer

pub returns-in-Ok-None-clause-peer_count : goal.returns-in-Ok-None-clause-peer_count
returns-in-Ok-None-clause-peer_count g c =
    let is : c.local_round.result ≡ Ok None = c.in-Ok-None.is ∙ ap (λ (o : Option (List (List ℕ))). Ok o) c.in-Ok-None.field-0-is in
    peer_stays g.D.Disk.state c.args.peer.now.seen c.args.repo.now.disk c.args.repo.now.seen c.loop-number.invariant.may (c.is_whole.ensures.seen).items (c.is_whole-2.ensures.seen).items
    c.loop-number.repo.disk c.loop-number.repo.seen c.loop-number.names c.loop-number.round c.loop-number.invariant.at c.local_round.new.repo.disk c.local_round.new.repo.seen c.local_round.new.peer.seen None (local_turn_is c.loop-number.peer.seen.state c.args.peer.now.seen.state c.items.result.now (unclustered_names c.args.peer.now.seen.items) c.items-in-loop-number.result.now c.loop-number.names (g.D.Disk.state c.loop-number.repo.disk) (g.D.Disk.state c.local_round.new.repo.disk) c.loop-number.repo.seen c.local_round.new.repo.seen (c.local_round.new.repo.disk ≡ c.loop-number.repo.disk) c.local_round.result (Ok None) c.local_round.new.peer.seen.state
    c.loop-number.invariant.peer (c.items.ensures ∙ c.in-Ok.ensures) c.items-in-loop-number.ensures is c.local_round.ensures.step)

pub returns-in-Err-local_round-clause-peer_count : goal.returns-in-Err-local_round-clause-peer_count
returns-in-Err-local_round-clause-peer_count g c =
    let is = c.in-Err-local_round.is in
    peer_counts c.args.peer.now.seen.state (unclustered_names c.args.peer.now.seen.items) c.loop-number.names (g.D.Disk.state c.loop-number.repo.disk) (g.D.Disk.state c.local_round.new.repo.disk) c.loop-number.repo.seen c.local_round.new.repo.seen (c.local_round.new.repo.disk ≡ c.loop-number.repo.disk)
    c.in-Err-local_round.fault c.local_round.new.peer.seen.state (local_turn_is c.loop-number.peer.seen.state c.args.peer.now.seen.state c.items.result.now (unclustered_names c.args.peer.now.seen.items) c.items-in-loop-number.result.now c.loop-number.names (g.D.Disk.state c.loop-number.repo.disk) (g.D.Disk.state c.local_round.new.repo.disk) c.loop-number.repo.seen c.local_round.new.repo.seen (c.local_round.new.repo.disk ≡ c.loop-number.repo.disk) c.local_round.result (Err c.in-Err-local_round.fault) c.local_round.new.peer.seen.state
    c.loop-number.invariant.peer (c.items.ensures ∙ c.in-Ok.ensures) c.items-in-loop-number.ensures is c.local_round.ensures.step)
