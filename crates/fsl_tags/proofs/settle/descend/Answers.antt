use Rattle.std.proofs.Common.{◌∙◌, sym, ap}
use Rattle.fsl_tags.specs.Joined.{joined}
use Rattle.fsl_tags.specs.Laid.{row_in}
use Rattle.fsl_tags.specs.Laying.{down}
use Rattle.fsl_tags.proofs.Filling.{down-last, rises_none}
use Rattle.fsl_tags.proofs.settle.descend.Goals as goal

pub loop-at-init : goal.loop-at-init
loop-at-init g c = record {
  whole = ap (down (row_in c.args.own.now.held.entries) c.args.names.items) c.new-row.ensures;
  rise = rises_none c.new-row.result c.new-row.ensures;
}

pub loop-at-preserved : goal.loop-at-preserved
loop-at-preserved g c =
    let own = row_in c.args.own.now.held.entries in
    let rest = c.pop.new.names.items in
    record {
      whole =
          ap (down own rest) (c.in_ok-row.ensures.whole ∙ ap (joined c.loop-at.row) c.row_of-near.ensures.row)
          ∙ sym (down-last own rest c.in-Some.at c.loop-at.row) ∙ ap (λ names. down own names c.loop-at.row) (sym c.in-Some.ensures) ∙ c.loop-at.invariant.whole;
      rise = c.in_ok-row.ensures.rising;
    }
