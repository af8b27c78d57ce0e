use Rattle.std.proofs.Common.{refl, sym, ◌∙◌, arith}
use Rattle.std.proofs.lemmas.Result.{on_ok_weaker}
use Rattle.fsl_disk.specs.Disk.{Begins}
use Rattle.fsl_disk.proofs.Moments.{keeps_on, started}
use Rattle.fsl_journal.specs.Create.{new_file}
use Rattle.fsl_scrub.proofs.Ends.{no_success, fault_cause, cause_on, on_success}
use Rattle.fsl_scrub.proofs.Opening.{after_sync, after_gate, after_all, opened_held}
use Rattle.fsl_scrub.proofs.gate.open_gate.Goals as goal

pub returns-in_err-sync : goal.returns-in_err-sync
returns-in_err-sync g c =
    let s0 = g.P.Disk.state c.args.spare.now in
    let r = c.from_residual.result in
    let is = c.from_residual.ensures.1 in
    let failed = c.in_err-sync.ensures.cause in record {
      keeps = c.sync.ensures.call.keeps;
      contents = no_success r _ is _;
      durable = no_success r _ is _;
      moments = λ model body told each.
          after_sync new_file 15 body s0 s0 _ model (started s0 (Begins new_file) (λ f left. g.met.P.Disk.only_now c.args.spare.now f model left) each) (record { tells = refl; model = refl }) c.sync.ensures.call;
      cause = fault_cause r _ is _ _ failed.later failed.failed;
    }

pub write_at-requires : goal.write_at-requires
write_at-requires g c = λ held told. omega (arith, c.requires held (sym c.sync.ensures.contents ∙ told))

pub returns-in_err-write_at : goal.returns-in_err-write_at
returns-in_err-write_at g c =
    let s0 = g.P.Disk.state c.args.spare.now in
    let r = c.from_residual-in_err-write_at.result in
    let is = c.from_residual-in_err-write_at.ensures.1 in
    let failed = cause_on _ _ _ _ c.in_ok-sync.ensures.cause.same c.in_err-write_at.ensures.cause in record {
      keeps = keeps_on _ _ _ c.sync.ensures.call.keeps c.write_at.ensures.call.keeps;
      contents = no_success r _ is _;
      durable = no_success r _ is _;
      moments = λ model body told each.
          after_gate new_file 15 body s0 s0 _ _ refl model (started s0 (Begins new_file) (λ f left. g.met.P.Disk.only_now c.args.spare.now f model left) each)
          (record { tells = refl; model = refl }) told c.sync.ensures.call c.in_ok-sync.ensures.durable c.write_at.ensures.call;
      cause = fault_cause r _ is _ _ failed.later failed.failed;
    }

pub returns : goal.returns
returns g c =
    let s0 = g.P.Disk.state c.args.spare.now in
    let s2 = g.P.Disk.state c.sync.new.self in
    let s3 = g.P.Disk.state c.write_at.new.self in
    let r = c.sync-2.result in
    let keeps = keeps_on _ _ _ c.sync.ensures.call.keeps c.write_at.ensures.call.keeps in
    let so_far = c.in_ok-write_at.ensures.cause.same ∙ c.in_ok-sync.ensures.cause.same in record {
      keeps = keeps_on _ _ _ keeps c.sync-2.ensures.call.keeps;
      contents = on_success r _ (λ body told. c.sync-2.ensures.contents ∙ opened_held new_file 15 body s0 s2 s3 refl told c.sync.ensures.contents c.in_ok-write_at.ensures.written);
      durable = on_ok_weaker r (λ durable model body told.
          durable (keeps.model ∙ model) _ (opened_held new_file 15 body s0 s2 s3 refl told c.sync.ensures.contents c.in_ok-write_at.ensures.written)) c.sync-2.ensures.durable;
      moments = λ model body told each.
          after_all new_file 15 body s0 s0 _ _ refl model _
          (after_gate new_file 15 body s0 s0 _ _ refl model (started s0 (Begins new_file) (λ f left. g.met.P.Disk.only_now c.args.spare.now f model left) each)
          (record { tells = refl; model = refl }) told c.sync.ensures.call c.in_ok-sync.ensures.durable c.write_at.ensures.call)
          (record { tells = refl; model = refl }) c.sync.ensures.call c.write_at.ensures.call c.sync-2.ensures.call;
      cause = cause_on r _ _ _ so_far c.sync-2.ensures.cause;
    }
