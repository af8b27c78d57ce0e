use Rattle.std.proofs.Common.{◌<◌, length, sym, ◌∙◌, arith}
use Rattle.fsl_pull.proofs.CloneTexts.{texts_on, same_told}
use Rattle.fsl_pull.proofs.cloning.are_same.Goals as goal

pub loop-i-preserved : goal.loop-i-preserved
loop-i-preserved c =
    let within : c.loop-i.i < length c.args.texts.now = omega (arith, c.loop-i-test.true) in
    let both : c.loop-i.i < length c.args.others.now = omega (arith, within, c.loop-i.invariant.0) in (
      c.loop-i.invariant.0,
      texts_on c.args.texts.now c.args.others.now c.loop-i.i c.index-texts-i.result c.index-others-i.result within both c.index-texts-i.is c.index-others-i.is
          (sym c.bytes.ensures ∙ same_told c.bytes.result.now c.bytes-in-loop-i.result.now c.ne.result c.ne.ensures c.if-ne.false ∙ c.bytes-in-loop-i.ensures) c.loop-i.invariant.1,
    )
