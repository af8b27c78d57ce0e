use Rattle.std.proofs.Common.{◌∙◌, List, ◌++◌, ◌∷◌, [], ap, sym, subst, take}
use Rattle.fsl_record.specs.declared.Record.{Record}
use Rattle.fsl_uv.specs.Stores.{IsUv}
use Rattle.fsl_uv.proofs.RecordLemmas.{take-next, fails-there}
use Rattle.fsl_uv.proofs.opening.held_of.Goals as goal

pub returns-in-Err-clause-fault : goal.returns-in-Err-clause-fault
returns-in-Err-clause-fault c =
    fails-there c.args.records.now c.loop-entry.entry-index c.entry-item.result c.loop-entry.held c.entry-item.result c.in-Err.fault c.loop-entry-test.true c.loop-entry.invariant
    (sym c.entry-item.is) c.in-Err.ensures.fault

pub loop-entry-preserved : goal.loop-entry-preserved
loop-entry-preserved c =
    let rs = c.args.records.now in
    let i = c.loop-entry.entry-index in
    subst (λ (l : List Record). IsUv l c.take_record.new.held)
    (sym (take-next rs i c.entry-item.result c.loop-entry-test.true ∙ ap (λ (r : Record). take i rs ++ r ∷ []) (sym c.entry-item.is)))
    (c.in-Ok.ensures.ok (take i rs) c.loop-entry.invariant)
