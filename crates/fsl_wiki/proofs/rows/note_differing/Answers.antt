use Rattle.std.proofs.Common.{◌∙◌, ◌&&◌, ◌||◌, not, ap}
use Rattle.std.specs.Str.{bytes_eq}
use Rattle.fsl_order.specs.Names.{has}
use Rattle.fsl_table.proofs.Outcomes.{on_ok_map}
use Rattle.fsl_wiki.proofs.rows.note_differing.Goals as goal

pub returns : goal.returns
returns c =
    let before = c.args.before.now.keys in
    let after = c.args.after.now.keys in
    on_ok_map c.note_if.result
    (λ noted q. noted q
    ∙ ap (λ r. (bytes_eq q c.args.name && c.args.wanted) || r)
    (c.in_ok-note_missing-2.ensures q ∙ ap (λ r. (has after q && not (has before q)) || r) (c.in_ok-note_missing.ensures q)))
    c.note_if.ensures.noted
