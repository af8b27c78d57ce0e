use Rattle.std.proofs.Common.{◌∙◌}
use Rattle.std.proofs.lemmas.Result.{on_ok_weaker}
use Rattle.fsl_disk.proofs.Moments.{keeps_on}
use Rattle.fsl_journal.specs.Commit.{body_of, carried}
use Rattle.fsl_journal.proofs.Ends.{no_success, fault_cause, cause_on}
use Rattle.fsl_journal.proofs.Versions.{carried_first, carried_all}
use Rattle.fsl_journal.proofs.commit.write_commit.Goals as goal

pub carry_over-requires : goal.carry_over-requires
carry_over-requires g c = record { header = c.requires.header; ends = c.requires.ends }

pub returns-in_err-carry_over : goal.returns-in_err-carry_over
returns-in_err-carry_over g c =
    let r = c.from_residual.result in
    let is = c.from_residual.ensures.1 in
    let failed = c.in_err-carry_over.ensures.cause in record {
      fits = no_success r _ is _;
      contents = no_success r _ is _;
      durable = no_success r _ is _;
      any_moment = λ model held told. carried_first c.args.mark held c.args.place (body_of c.args.bytes.now) _ _ (c.carry_over.ensures.any_moment model held told);
      keeps = c.carry_over.ensures.keeps;
      cause = fault_cause r _ is _ _ failed.later failed.failed;
    }

pub write_group-requires : goal.write_group-requires
write_group-requires g c = record { fits = c.requires.fits; ends = c.in_ok-carry_over.ensures.ends }

pub returns : goal.returns
returns g c =
    let r = c.write_group.result in
    let mark = c.args.mark in
    let keeps = c.carry_over.ensures.keeps in
    let over = c.in_ok-carry_over.ensures.contents in record {
      fits = c.write_group.ensures.fits;
      contents = on_ok_weaker r (λ wrote held told. wrote (carried mark held) (over held told)) c.write_group.ensures.contents;
      durable = on_ok_weaker r (λ durable model held told. durable (keeps.model ∙ model) (carried mark held) (over held told)) c.write_group.ensures.durable;
      any_moment = λ model held told.
          carried_all mark held c.args.place (body_of c.args.bytes.now) _ _ _ (c.carry_over.ensures.any_moment model held told) (c.write_group.ensures.any_moment (keeps.model ∙ model) (carried mark held) (over held told));
      keeps = keeps_on _ _ _ keeps c.write_group.ensures.keeps;
      cause = cause_on r _ _ _ c.in_ok-carry_over.ensures.cause.same c.write_group.ensures.cause;
    }
