use Rattle.std.proofs.Common.{◌≡◌, Some, refl, subst, ◌∙◌, arith}
use Rattle.std.proofs.lemmas.Result.{on_ok_weaker}
use Rattle.fsl_disk.proofs.Moments.{keeps_on, told_contents, weaker}
use Rattle.fsl_journal.specs.Commit.{body_of, gated}
use Rattle.fsl_journal.specs.Create.{new_file, IsShort}
use Rattle.fsl_journal.specs.Journal.{NothingOr}
use Rattle.fsl_journal.proofs.Ends.{no_success, fault_cause, cause_on}
use Rattle.fsl_journal.proofs.Making.{short_nothing, header_ends, create_moments, opened_stands}
use Rattle.fsl_journal.proofs.creating.write_file.Goals as goal

pub write_header-requires : goal.write_header-requires
write_header-requires g c = c.requires.empty

pub returns-in_err-write_header : goal.returns-in_err-write_header
returns-in_err-write_header g c =
    let r = c.from_residual.result in
    let is = c.from_residual.ensures.1 in
    let failed = c.in_err-write_header.ensures.cause in record {
      file = no_success r _ is _;
      mark = no_success r _ is _;
      durable = no_success r _ is _;
      written = no_success r _ is _;
      any_moment = λ modelled empty.
          weaker _ _ IsShort (NothingOr c.args.config.now) (short_nothing c.args.config.now) (c.write_header.ensures.any_moment modelled.model empty);
      keeps = c.write_header.ensures.keeps;
      cause = fault_cause r _ is _ _ failed.later failed.failed;
    }

pub write_group-requires : goal.write_group-requires
write_group-requires g c = record {
  fits = omega arith;
  ends = header_ends _ _ c.write_header.ensures.keeps c.in_ok-write_header.ensures.contents c.in_ok-write_header.ensures.durable;
}

pub returns : goal.returns
returns g c =
    let r = c.write_group.result in
    let config = c.args.config.now in
    let bytes = c.args.bytes.now in
    let body = body_of bytes in record {
      file = on_ok_weaker r (λ wrote held told. (
        gated new_file 15 79 body,
        wrote new_file (c.in_ok-write_header.ensures.contents held told),
        opened_stands config bytes body c.requires.fit c.requires.bytes c.requires.fits refl _ refl,
      )) c.write_group.ensures.contents;
      mark = on_ok_weaker r (λ wrote held told. (gated new_file 15 79 body, wrote new_file (c.in_ok-write_header.ensures.contents held told), refl)) c.write_group.ensures.contents;
      durable = on_ok_weaker r (λ durable modelled f left.
          let told = told_contents _ modelled in
          opened_stands config bytes body c.requires.fit c.requires.bytes c.requires.fits refl f
          (durable (c.write_header.ensures.keeps.model ∙ modelled.model) new_file (c.in_ok-write_header.ensures.contents told.0 told.1) f left)) c.write_group.ensures.durable;
      written = on_ok_weaker r (λ wrote held told.
          subst (λ b. (g.D.Disk.state c.write_group.new.disk).contents ≡ Some (gated new_file 15 79 (body_of b))) c.requires.bytes
          (wrote new_file (c.in_ok-write_header.ensures.contents held told))) c.write_group.ensures.contents;
      any_moment = λ modelled empty.
          let told = told_contents _ modelled in
          let first = weaker _ _ IsShort (NothingOr config) (short_nothing config) (c.write_header.ensures.any_moment modelled.model empty) in
          create_moments config bytes body c.requires.fit c.requires.bytes c.requires.fits refl _ _ _ first (c.in_ok-write_header.ensures.contents told.0 told.1) (c.write_header.ensures.keeps.model ∙ modelled.model) c.write_group.ensures.any_moment;
      keeps = keeps_on _ _ _ c.write_header.ensures.keeps c.write_group.ensures.keeps;
      cause = cause_on r _ _ _ c.in_ok-write_header.ensures.cause.same c.write_group.ensures.cause;
    }
