use Rattle.std.proofs.lemmas.List.{drop_more}
use Rattle.std.proofs.Common.{◌≡◌, ◌||◌, ◌&&◌, not, ◌∙◌, ◌∷◌, ◌+◌, drop, ap, sym, arith}
use Rattle.std.specs.Str.{bytes_eq}
use Rattle.fsl_order.specs.Names.{has}
use Rattle.fsl_table.proofs.Noting.{unless-step}
use Rattle.fsl_files.specs.Same.{is_same_row}
use Rattle.fsl_files.proofs.same.note_others.Goals as goal

pub loop-name-preserved : goal.loop-name-preserved
loop-name-preserved g c = record {
  noted = λ q.
      let rest = drop (c.loop-name.name-index + 1) c.args.more.now in
      let n = not (is_same_row c.args.old.now c.args.new.now q) in
      let cut : drop c.loop-name.name-index c.args.more.now ≡ c.name-item.result ∷ rest = drop_more c.args.more.now c.loop-name.name-index c.name-item.result c.loop-name-test.true ∙ ap (λ x. x ∷ rest) (sym c.name-item.is) in
      ap (λ b. (has rest q && n) || b) (c.in_ok-note_if_other.ensures.noted q)
      ∙ unless-step (bytes_eq q c.name-item.result) (has rest q) n (has c.loop-name.names.keys q) ((has c.args.more.now q && n) || has c.args.names.now.keys q)
      (ap (λ l. (has l q && n) || has c.loop-name.names.keys q) (sym cut) ∙ c.loop-name.invariant.noted q);
  cost = λ none. absurd (omega (arith, none, c.loop-name-test.true));
}
