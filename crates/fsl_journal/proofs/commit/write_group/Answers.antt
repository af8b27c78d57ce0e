use Rattle.std.proofs.Common.{◌≡◌, ◌++◌, length, sym, ◌∙◌, ap, arith, length-append}
use Rattle.std.proofs.lemmas.Result.{on_ok_weaker}
use Rattle.fsl_disk.proofs.Moments.{keeps_on, told_before}
use Rattle.fsl_journal.specs.Commit.{body_of}
use Rattle.fsl_journal.proofs.Ends.{no_success, fault_cause, cause_on, on_success}
use Rattle.fsl_journal.proofs.Gate.{some_same, after_body, after_sync, after_gate, after_all, opened_held}
use Rattle.fsl_journal.proofs.commit.write_group.Goals as goal

pub write_body-requires : goal.write_body-requires
write_body-requires g c = record { fits = c.requires.fits; ends = c.requires.ends }

pub returns-in_err-write_body : goal.returns-in_err-write_body
returns-in_err-write_body g c =
    let r = c.from_residual.result in
    let is = c.from_residual.ensures.1 in
    let failed = c.in_err-write_body.ensures.cause in record {
      fits = no_success r _ is _;
      contents = no_success r _ is _;
      durable = no_success r _ is _;
      any_moment = λ model held told. after_body held c.args.place (body_of c.args.bytes.now) _ _ (c.write_body.ensures.any_moment model held told);
      keeps = c.write_body.ensures.keeps;
      cause = fault_cause r _ is _ _ failed.later failed.failed;
    }

pub returns-in_err-sync : goal.returns-in_err-sync
returns-in_err-sync g c =
    let r = c.from_residual-in_err-sync.result in
    let is = c.from_residual-in_err-sync.ensures.1 in
    let failed = cause_on _ _ _ _ c.in_ok-write_body.ensures.cause.same c.in_err-sync.ensures.cause in record {
      fits = no_success r _ is _;
      contents = no_success r _ is _;
      durable = no_success r _ is _;
      any_moment = λ model held told. after_sync held c.args.place (body_of c.args.bytes.now) _ _ _ model (c.write_body.ensures.any_moment model held told) c.write_body.ensures.keeps c.sync.ensures.call;
      keeps = keeps_on _ _ _ c.write_body.ensures.keeps c.sync.ensures.call.keeps;
      cause = fault_cause r _ is _ _ failed.later failed.failed;
    }

-- the gate stands inside what was written
pub write_at-requires : goal.write_at-requires
write_at-requires g c = λ held told.
    let before = told_before _ _ held c.write_body.ensures.keeps (sym c.sync.ensures.contents ∙ told) in
    let is : held ≡ before.0 ++ body_of c.args.bytes.now = some_same (sym told ∙ c.sync.ensures.contents ∙ c.in_ok-write_body.ensures.contents before.0 before.1) in
    omega (arith, c.requires.ends.last before.0 before.1, ap length is, length-append before.0 (body_of c.args.bytes.now))

pub returns-in_err-write_at : goal.returns-in_err-write_at
returns-in_err-write_at g c =
    let r = c.from_residual-in_err-write_at.result in
    let is = c.from_residual-in_err-write_at.ensures.1 in
    let so_far = c.in_ok-sync.ensures.cause.same ∙ c.in_ok-write_body.ensures.cause.same in
    let failed = cause_on _ _ _ _ so_far c.in_err-write_at.ensures.cause in record {
      fits = no_success r _ is _;
      contents = no_success r _ is _;
      durable = no_success r _ is _;
      any_moment = λ model held told.
          after_gate held c.args.place (body_of c.args.bytes.now) _ _ _ _ (c.requires.ends.last held told) model
          (c.write_body.ensures.any_moment model held told) c.write_body.ensures.keeps (c.in_ok-write_body.ensures.contents held told) c.sync.ensures.call c.in_ok-sync.ensures.durable c.write_at.ensures.call;
      keeps = keeps_on _ _ _ (keeps_on _ _ _ c.write_body.ensures.keeps c.sync.ensures.call.keeps) c.write_at.ensures.call.keeps;
      cause = fault_cause r _ is _ _ failed.later failed.failed;
    }

pub returns : goal.returns
returns g c =
    let s1 = g.D.Disk.state c.write_body.new.disk in
    let s2 = g.D.Disk.state c.sync.new.self in
    let s3 = g.D.Disk.state c.write_at.new.self in
    let r = c.sync-2.result in
    let place = c.args.place in
    let body = body_of c.args.bytes.now in
    let keeps = keeps_on _ _ _ (keeps_on _ _ _ c.write_body.ensures.keeps c.sync.ensures.call.keeps) c.write_at.ensures.call.keeps in
    let so_far = c.in_ok-write_at.ensures.cause.same ∙ c.in_ok-sync.ensures.cause.same ∙ c.in_ok-write_body.ensures.cause.same in record {
      fits = on_success r _ c.in_ok-write_body.ensures.fits;
      contents = on_success r _ (λ held told.
          c.sync-2.ensures.contents
          ∙ opened_held held place body s1 s2 s3 (c.requires.ends.last held told) (c.in_ok-write_body.ensures.contents held told) c.sync.ensures.contents c.in_ok-write_at.ensures.written);
      durable = on_ok_weaker r (λ durable model held told.
          durable (keeps.model ∙ model) _
          (opened_held held place body s1 s2 s3 (c.requires.ends.last held told) (c.in_ok-write_body.ensures.contents held told) c.sync.ensures.contents c.in_ok-write_at.ensures.written)) c.sync-2.ensures.durable;
      any_moment = λ model held told.
          after_all held place body _ _ _ _ (c.requires.ends.last held told) model _
          (after_gate held place body _ _ _ _ (c.requires.ends.last held told) model
          (c.write_body.ensures.any_moment model held told) c.write_body.ensures.keeps (c.in_ok-write_body.ensures.contents held told) c.sync.ensures.call c.in_ok-sync.ensures.durable c.write_at.ensures.call)
          c.write_body.ensures.keeps c.sync.ensures.call c.write_at.ensures.call c.sync-2.ensures.call;
      keeps = keeps_on _ _ _ keeps c.sync-2.ensures.call.keeps;
      cause = cause_on r _ _ _ so_far c.sync-2.ensures.cause;
    }
