use Rattle.std.proofs.Common.{Some, refl, sym, ◌∙◌, ap, arith}
use Rattle.std.proofs.lemmas.Result.{on_ok_weaker}
use Rattle.fsl_journal.proofs.Versions.{stays, carries, stays_moments, way_moments}
use Rattle.fsl_journal.proofs.commit.carry_over.Goals as goal

pub returns-then-mark-ne-MARK_1 : goal.returns-then-mark-ne-MARK_1
returns-then-mark-ne-MARK_1 g c =
    let other = c.if-mark-ne-MARK_1.true in record {
      contents = λ held told. told ∙ ap Some (sym (stays c.args.mark held other));
      ends = c.requires.ends;
      any_moment = λ model held told.
          stays_moments c.args.mark held c.args.place (g.D.Disk.state c.args.disk.now) other c.requires.ends told model (λ f left. g.met.D.Disk.only_now c.args.disk.now f model left);
      keeps = record { tells = refl; model = refl };
      cause = record { later = omega arith; failed = tt; same = refl };
    }

pub write_mark-requires : goal.write_mark-requires
write_mark-requires g c = record { header = c.requires.header; ends = c.requires.ends }

pub returns : goal.returns
returns g c =
    let r = c.write_mark.result in
    let one = c.if-mark-ne-MARK_1.false in record {
      contents = on_ok_weaker r (λ wrote held told. wrote held told ∙ ap Some (sym (carries c.args.mark held one))) c.write_mark.ensures.contents;
      ends = c.write_mark.ensures.ends;
      any_moment = λ model held told. way_moments c.args.mark held _ _ one (c.write_mark.ensures.any_moment model held told);
      keeps = c.write_mark.ensures.keeps;
      cause = c.write_mark.ensures.cause;
    }
