use Rattle.std.proofs.Common.{◌+◌, length, ◌∙◌, arith}
use Rattle.std.proofs.lemmas.Result.{on_ok_weaker}
use Rattle.fsl_disk.proofs.Moments.{keeps_on}
use Rattle.fsl_journal.specs.Commit.{eight}
use Rattle.fsl_journal.proofs.Ends.{no_success, fault_cause, cause_on}
use Rattle.fsl_journal.proofs.Gate.{grown, body_held, wrote_on, wrote_first, length-body}
use Rattle.fsl_journal.proofs.commit.write_body.Goals as goal

pub write_at-requires : goal.write_at-requires
write_at-requires g c = λ held told. omega (arith, c.requires.ends.last held told)

pub returns-in_err-write_at : goal.returns-in_err-write_at
returns-in_err-write_at g c =
    let r = c.from_residual.result in
    let is = c.from_residual.ensures.1 in
    let failed = c.in_err-write_at.ensures.cause in record {
      fits = no_success r _ is _;
      contents = no_success r _ is _;
      any_moment = λ model held told.
          wrote_first held c.args.place (g.D.Disk.state c.args.disk.now) c.requires.ends model told (length c.to_be_bytes-head.result) _ (λ f left. g.met.D.Disk.only_now c.args.disk.now f model left) c.write_at.ensures.call;
      keeps = c.write_at.ensures.call.keeps;
      cause = fault_cause r _ is _ _ failed.later failed.failed;
    }

pub write_at-requires-2 : goal.write_at-requires-2
write_at-requires-2 g c = λ held told.
    omega (arith, grown (g.D.Disk.state c.args.disk.now) (g.D.Disk.state c.write_at.new.self) (c.args.place + 1) (c.args.place + 9) c.to_be_bytes-head.result (omega arith) c.write_at.ensures.call.keeps c.requires.ends.last c.in_ok-write_at.ensures.written held told)

pub returns-in_err-write_at-2 : goal.returns-in_err-write_at-2
returns-in_err-write_at-2 g c =
    let r = c.from_residual-in_err-write_at-2.result in
    let is = c.from_residual-in_err-write_at-2.ensures.1 in
    let failed = cause_on _ _ _ _ c.in_ok-write_at.ensures.cause.same c.in_err-write_at-2.ensures.cause in record {
      fits = no_success r _ is _;
      contents = no_success r _ is _;
      any_moment = λ model held told.
          wrote_on held c.args.place (g.D.Disk.state c.args.disk.now) c.requires.ends model told (c.args.place + 9) (length c.args.bytes.now) _ _ (omega arith) c.write_at.ensures.call.keeps
          (wrote_first held c.args.place (g.D.Disk.state c.args.disk.now) c.requires.ends model told (length c.to_be_bytes-head.result) _ (λ f left. g.met.D.Disk.only_now c.args.disk.now f model left) c.write_at.ensures.call) c.write_at-2.ensures.call;
      keeps = keeps_on _ _ _ c.write_at.ensures.call.keeps c.write_at-2.ensures.call.keeps;
      cause = fault_cause r _ is _ _ failed.later failed.failed;
    }

pub write_at-requires-3 : goal.write_at-requires-3
write_at-requires-3 g c = λ held told.
    omega (
      arith,
      grown (g.D.Disk.state c.write_at.new.self) (g.D.Disk.state c.write_at-2.new.self) (c.args.place + 9) (c.args.place + 9 + length c.args.bytes.now) c.args.bytes.now (omega arith) c.write_at-2.ensures.call.keeps
          (grown (g.D.Disk.state c.args.disk.now) (g.D.Disk.state c.write_at.new.self) (c.args.place + 1) (c.args.place + 9) c.to_be_bytes-head.result (omega arith) c.write_at.ensures.call.keeps c.requires.ends.last c.in_ok-write_at.ensures.written)
          c.in_ok-write_at-2.ensures.written held told,
    )

pub returns : goal.returns
unfolding eight
returns g c =
    let r = c.write_at-3.result in
    let first = keeps_on _ _ _ c.write_at.ensures.call.keeps c.write_at-2.ensures.call.keeps in
    let so_far = c.in_ok-write_at-2.ensures.cause.same ∙ c.in_ok-write_at.ensures.cause.same in record {
      fits = on_ok_weaker r (λ fits. omega (arith, length-body c.args.bytes.now, fits)) c.write_at-3.ensures.fits;
      contents = on_ok_weaker r (λ written held told.
          body_held held c.to_be_bytes-head.result c.args.bytes.now c.args.place (g.D.Disk.state c.args.disk.now) (g.D.Disk.state c.write_at.new.self) (g.D.Disk.state c.write_at-2.new.self) (g.D.Disk.state c.write_at-3.new.self) (c.requires.ends.last held told) c.to_be_bytes-head.ensures (omega arith) told c.in_ok-write_at.ensures.written c.in_ok-write_at-2.ensures.written written) c.write_at-3.ensures.written;
      any_moment = λ model held told.
          wrote_on held c.args.place (g.D.Disk.state c.args.disk.now) c.requires.ends model told (c.args.place + 9 + length c.args.bytes.now) 1 _ _ (omega arith) first
          (wrote_on held c.args.place (g.D.Disk.state c.args.disk.now) c.requires.ends model told (c.args.place + 9) (length c.args.bytes.now) _ _ (omega arith) c.write_at.ensures.call.keeps
          (wrote_first held c.args.place (g.D.Disk.state c.args.disk.now) c.requires.ends model told (length c.to_be_bytes-head.result) _ (λ f left. g.met.D.Disk.only_now c.args.disk.now f model left) c.write_at.ensures.call) c.write_at-2.ensures.call) c.write_at-3.ensures.call;
      keeps = keeps_on _ _ _ first c.write_at-3.ensures.call.keeps;
      cause = cause_on r _ _ _ so_far c.write_at-3.ensures.cause;
    }
