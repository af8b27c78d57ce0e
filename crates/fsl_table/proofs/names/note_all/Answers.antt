use Rattle.std.proofs.lemmas.List.{drop_more}
use Rattle.std.proofs.Common.{◌≡◌, ◌||◌, ◌∙◌, ◌∷◌, ◌+◌, drop, ap, sym}
use Rattle.std.specs.Str.{bytes_eq}
use Rattle.fsl_order.specs.Names.{has}
use Rattle.fsl_table.proofs.Noting.{or-step}
use Rattle.fsl_table.proofs.names.note_all.Goals as goal

pub loop-name-preserved : goal.loop-name-preserved
loop-name-preserved c = λ q.
    let rest = drop (c.loop-name.name-index + 1) c.args.more.now in
    let cut : drop c.loop-name.name-index c.args.more.now ≡ c.name-item.result ∷ rest = drop_more c.args.more.now c.loop-name.name-index c.name-item.result c.loop-name-test.true ∙ ap (λ x. x ∷ rest) (sym c.name-item.is) in
    ap (λ b. has rest q || b) (c.in_ok-note.ensures.noted q)
    ∙ or-step (bytes_eq q c.name-item.result) (has rest q) (has c.loop-name.names.keys q) (has c.args.more.now q || has c.args.names.now.keys q)
    (ap (λ l. has l q || has c.loop-name.names.keys q) (sym cut) ∙ c.loop-name.invariant q)
