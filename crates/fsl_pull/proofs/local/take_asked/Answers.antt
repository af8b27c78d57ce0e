use Rattle.std.proofs.Common.{◌+◌, Ok, Err, refl, sym, subst, take, ◌∙◌}
use Rattle.fsl_repo.specs.Machine.{State}
use Rattle.fsl_pull.specs.LocalTurns.{TakesGiven}
use Rattle.fsl_pull.proofs.GivenLemmas.{only_read_none, only_read_on}
use Rattle.fsl_pull.proofs.LocalTaken.{TakenSoFar, none_so_far, given_on, given_stops}
use Rattle.fsl_pull.proofs.local.take_asked.Goals as goal

pub loop-name-init : goal.loop-name-init
loop-name-init g c = record { taken = none_so_far c.args.peer.now.seen.state c.args.repo.now.seen; disk = refl; state = refl; only = only_read_none g.P.Disk.state c.args.peer.now }

pub loop-name-preserved : goal.loop-name-preserved
loop-name-preserved g c =
    let peer = c.args.peer.now.seen.state in
    let asked = c.args.asked.now in
    let i = c.loop-name.name-index in
    let name = c.name-item.result in
    let mid = c.loop-name.repo.seen in
    let new = c.take_given.new.repo.seen in
    let left = c.take_given.new.peer.seen.state in
    let on = given_on peer c.args.repo.now.seen asked i name c.loop-name-test.true c.name-item.is c.loop-name.moved mid c.loop-name.invariant.taken c.in-Ok.more new left
    (subst (λ (s : State). TakesGiven s name mid (Ok c.in-Ok.more) new left) c.loop-name.invariant.state c.in-Ok.ensures.taken) in
    record {
      taken = subst (λ m. TakenSoFar peer (take (i + 1) asked) c.args.repo.now.seen m new) (sym c.either-moved.ensures) on.0;
      disk = c.take_given.ensures.disk ∙ c.loop-name.invariant.disk;
      state = on.1;
      only = only_read_on g.P.Disk.state c.args.peer.now c.loop-name.peer c.take_given.new.peer c.loop-name.invariant.only c.take_given.ensures.peer;
    }

pub returns-in-Err-clause-taken : goal.returns-in-Err-clause-taken
returns-in-Err-clause-taken g c =
    let peer = c.args.peer.now.seen.state in
    let name = c.name-item.result in
    let mid = c.loop-name.repo.seen in
    let new = c.take_given.new.repo.seen in
    let left = c.take_given.new.peer.seen.state in
    given_stops peer c.args.repo.now.seen c.args.asked.now c.loop-name.name-index name c.loop-name-test.true c.name-item.is c.loop-name.moved mid c.loop-name.invariant.taken c.in-Err.fault new left
    (subst (λ (s : State). TakesGiven s name mid (Err c.in-Err.fault) new left) c.loop-name.invariant.state c.in-Err.ensures.taken)

pub returns-in-Err-clause-peer : goal.returns-in-Err-clause-peer
returns-in-Err-clause-peer g c = only_read_on g.P.Disk.state c.args.peer.now c.loop-name.peer c.take_given.new.peer c.loop-name.invariant.only c.take_given.ensures.peer
