use Rattle.fsl_cross.proofs.Trailing.{as_before-is, failed-led, kept-led, kept-facts, kept-single}
use Rattle.fsl_cross.proofs.change.pages.put.Goals as goal

pub keep-requires : goal.keep-requires
keep-requires g c = as_before-is c.in_ok-undo.undo.after c.add.new.self c.in_ok-undo.ensures.after

pub returns-in_err-undo-clause-led : goal.returns-in_err-undo-clause-led
returns-in_err-undo-clause-led g c = failed-led c.args.pages.now c.add.new.self c.args.undos.now c.in_err-undo.ensures.err

pub returns-clause-facts : goal.returns-clause-facts
returns-clause-facts g c = kept-facts c.keep.result c.add.new.self c.keep.new.table _ c.in_ok-undo.ensures.facts c.keep.ensures.table

pub returns-clause-led : goal.returns-clause-led
returns-clause-led g c =
    kept-led c.keep.result c.args.pages.now c.add.new.self c.keep.new.table c.args.undos.now c.keep.new.undos c.in_ok-undo.undo c.in_ok-undo.ensures.before c.in_ok-undo.ensures.after
    c.keep.ensures.table c.keep.ensures.undos c.keep.ensures.same c.keep.ensures.back

pub returns-clause-single : goal.returns-clause-single
returns-clause-single g c = kept-single c.keep.result c.args.undos.now c.keep.new.undos c.in_ok-undo.undo c.keep.ensures.undos
