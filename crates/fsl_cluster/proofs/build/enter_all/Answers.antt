use Rattle.std.proofs.lemmas.List.{drop_more}
use Rattle.std.proofs.Common.{◌≡◌, ◌∙◌, ◌∷◌, ◌+◌, ◌||◌, drop, ap, sym, subst}
use Rattle.std.specs.Str.{bytes_eq}
use Rattle.std.specs.List.Sorted.{IsStrictlySortedBy}
use Rattle.std.specs.Map.{keys_of}
use Rattle.fsl_order.specs.Names.{bytes_cmp, has}
use Rattle.fsl_order.proofs.Orders.{bytes_cmp-IsTotalOrder}
use Rattle.fsl_table.proofs.Entries.{sorted-insert_entry}
use Rattle.fsl_table.proofs.Noting.{or-step}
use Rattle.fsl_cluster.specs.Kept.{is_in}
use Rattle.fsl_cluster.proofs.Turning.{in_with}
use Rattle.fsl_cluster.proofs.build.enter_all.Goals as goal

pub enter-requires : goal.enter-requires
enter-requires g c = c.loop-name.invariant.ordered

pub loop-name-preserved : goal.loop-name-preserved
loop-name-preserved g c =
    let i = c.loop-name.name-index in
    let p = c.name-item.result in
    let rest = drop (i + 1) c.args.names.now in
    let cut : drop i c.args.names.now ≡ p ∷ rest = drop_more c.args.names.now i p c.loop-name-test.true ∙ ap (λ x. x ∷ rest) (sym c.name-item.is) in
    record {
      names = λ q.
          ap (λ b. has rest q || b) (ap (λ es. is_in es q) c.in_ok-enter.ensures.entries ∙ in_with p c.loop-name.set.entries q)
          ∙ or-step (bytes_eq q p) (has rest q) (is_in c.loop-name.set.entries q) _
          (ap (λ l. has l q || is_in c.loop-name.set.entries q) (sym cut) ∙ c.loop-name.invariant.names q);
      ordered = subst (λ es. IsStrictlySortedBy bytes_cmp (keys_of es)) (sym c.in_ok-enter.ensures.entries) (sorted-insert_entry bytes_cmp-IsTotalOrder p tt c.loop-name.set.entries c.loop-name.invariant.ordered);
    }
