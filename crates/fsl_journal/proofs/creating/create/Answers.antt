use Rattle.std.proofs.Common.{inl, inr, ◌∙◌, subst, arith}
use Rattle.std.proofs.lemmas.List.{nil_from_length}
use Rattle.fsl_disk.proofs.Moments.{keeps_on, quiet_call, modelled_after}
use Rattle.fsl_order.specs.Causes.{Rose}
use Rattle.fsl_journal.proofs.Ends.{no_success, same_fault}
use Rattle.fsl_journal.proofs.Making.{look_moments, file_moments}
use Rattle.fsl_journal.proofs.creating.create.Goals as goal

pub returns-in_err-len : goal.returns-in_err-len
returns-in_err-len g c =
    let r = c.from_residual.result in
    let is = c.from_residual.ensures.1 in
    let s0 = g.D.Disk.state c.args.disk.now in
    let s1 = g.D.Disk.state c.len.new.self in
    let quiet = quiet_call s0 s1 c.len.ensures.call c.len.ensures.contents in record {
      made = no_success r _ is _;
      fault = same_fault r _ is _ c.in_err-len.ensures.cause.failed;
      untouched = λ held told. inr quiet;
      keeps = c.len.ensures.call.keeps;
      any_moment = λ modelled. look_moments c.args.config.now s0 s1 quiet modelled (λ f left. g.met.D.Disk.only_now c.args.disk.now f modelled.model left);
      durable = no_success r _ is _;
      written = no_success r _ is _;
    }

pub returns-then-len-ne0 : goal.returns-then-len-ne0
returns-then-len-ne0 g c =
    let s0 = g.D.Disk.state c.args.disk.now in
    let s1 = g.D.Disk.state c.len.new.self in
    let quiet = quiet_call s0 s1 c.len.ensures.call c.len.ensures.contents in record {
      made = tt;
      fault = (record { contents = c.len.ensures.contents; faults = c.in_ok-len.ensures.cause.same }, omega arith, c.in_ok-len.ensures.answer.1, quiet);
      untouched = λ held told. inr quiet;
      keeps = c.len.ensures.call.keeps;
      any_moment = λ modelled. look_moments c.args.config.now s0 s1 quiet modelled (λ f left. g.met.D.Disk.only_now c.args.disk.now f modelled.model left);
      durable = tt;
      written = tt;
    }

pub write_config-requires : goal.write_config-requires
write_config-requires g c = c.requires

pub returns-in_err-write_config : goal.returns-in_err-write_config
returns-in_err-write_config g c =
    let r = c.from_residual-in_err-write_config.result in
    let is = c.from_residual-in_err-write_config.ensures.1 in
    let s0 = g.D.Disk.state c.args.disk.now in
    let s1 = g.D.Disk.state c.len.new.self in
    let quiet = quiet_call s0 s1 c.len.ensures.call c.len.ensures.contents in record {
      made = no_success r _ is _;
      fault = same_fault r _ is _ (record { contents = c.len.ensures.contents; faults = c.in_ok-len.ensures.cause.same }, (λ held told. nil_from_length held (omega (arith, c.in_ok-len.ensures.answer.1 held told))), quiet);
      untouched = λ held told. inr quiet;
      keeps = c.len.ensures.call.keeps;
      any_moment = λ modelled. look_moments c.args.config.now s0 s1 quiet modelled (λ f left. g.met.D.Disk.only_now c.args.disk.now f modelled.model left);
      durable = no_success r _ is _;
      written = no_success r _ is _;
    }

pub returns-in_err-write_file : goal.returns-in_err-write_file
returns-in_err-write_file g c =
    let r = c.from_residual-in_err-write_file.result in
    let is = c.from_residual-in_err-write_file.ensures.1 in
    let s0 = g.D.Disk.state c.args.disk.now in
    let s1 = g.D.Disk.state c.len.new.self in
    let s2 = g.D.Disk.state c.write_file.new.disk in
    let quiet = quiet_call s0 s1 c.len.ensures.call c.len.ensures.contents in record {
      made = no_success r _ is _;
      fault = same_fault r _ is _ (subst (λ n. Rose n s2.faults) c.in_ok-len.ensures.cause.same c.in_err-write_file.ensures.cause.failed);
      untouched = λ held told. inl (nil_from_length held (omega (arith, c.in_ok-len.ensures.answer.1 held told)));
      keeps = keeps_on s0 s1 s2 c.len.ensures.call.keeps c.write_file.ensures.keeps;
      any_moment = λ modelled empty. file_moments c.args.config.now s0 s1 s2 quiet modelled (λ f left. g.met.D.Disk.only_now c.args.disk.now f modelled.model left) empty c.write_file.ensures.any_moment;
      durable = no_success r _ is _;
      written = no_success r _ is _;
    }

pub returns : goal.returns
returns g c =
    let s0 = g.D.Disk.state c.args.disk.now in
    let s1 = g.D.Disk.state c.len.new.self in
    let s2 = g.D.Disk.state c.write_file.new.disk in
    let quiet = quiet_call s0 s1 c.len.ensures.call c.len.ensures.contents in record {
      made = record {
        faults = c.in_ok-write_file.ensures.cause.same ∙ c.in_ok-len.ensures.cause.same;
        was = λ held told. nil_from_length held (omega (arith, c.in_ok-len.ensures.answer.1 held told));
        file = λ held told. c.in_ok-write_file.ensures.file held (c.len.ensures.contents ∙ told);
        mark = λ held told. c.in_ok-write_file.ensures.mark held (c.len.ensures.contents ∙ told);
      };
      fault = tt;
      untouched = λ held told. inl (nil_from_length held (omega (arith, c.in_ok-len.ensures.answer.1 held told)));
      keeps = keeps_on s0 s1 s2 c.len.ensures.call.keeps c.write_file.ensures.keeps;
      any_moment = λ modelled empty. file_moments c.args.config.now s0 s1 s2 quiet modelled (λ f left. g.met.D.Disk.only_now c.args.disk.now f modelled.model left) empty c.write_file.ensures.any_moment;
      written = λ held told. c.in_ok-write_file.ensures.written held (c.len.ensures.contents ∙ told);
      durable = λ modelled. c.in_ok-write_file.ensures.durable (modelled_after s0 s1 c.len.ensures.call.keeps modelled);
    }
