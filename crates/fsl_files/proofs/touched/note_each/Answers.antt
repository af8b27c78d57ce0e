use Rattle.std.proofs.lemmas.List.{drop_more}
use Rattle.std.proofs.Common.{◌≡◌, ◌||◌, ◌∙◌, ◌∷◌, ◌+◌, List, ℕ, Bool, drop, ap, sym, arith}
use Rattle.std.specs.List.{list_any}
use Rattle.fsl_order.specs.Names.{has}
use Rattle.fsl_table.specs.Pairs.{seconds}
use Rattle.fsl_table.proofs.Noting.{or-step}
use Rattle.fsl_files.proofs.touched.note_each.Goals as goal

pub loop-up-preserved : goal.loop-up-preserved
loop-up-preserved g c = record {
  noted = λ q.
      let f : List ℕ → Bool = λ up. has (seconds up c.args.children.now.held.entries) q in
      let rest = drop (c.loop-up.up-index + 1) c.args.ups.now in
      let cut : drop c.loop-up.up-index c.args.ups.now ≡ c.up-item.result ∷ rest = drop_more c.args.ups.now c.loop-up.up-index c.up-item.result c.loop-up-test.true ∙ ap (λ x. x ∷ rest) (sym c.up-item.is) in
      ap (λ b. list_any f rest || b) (c.in_ok-note_children.ensures.noted q)
      ∙ or-step (f c.up-item.result) (list_any f rest) (has c.loop-up.names.keys q) (list_any f c.args.ups.now || has c.args.names.now.keys q)
      (ap (λ l. list_any f l || has c.loop-up.names.keys q) (sym cut) ∙ c.loop-up.invariant.noted q);
  cost = λ none. absurd (omega (arith, none, c.loop-up-test.true));
}
