use Rattle.std.proofs.lemmas.List.{drop_more}
use Rattle.std.proofs.Common.{◌≡◌, ◌&&◌, not, ◌∙◌, ◌∷◌, ◌+◌, Some, drop, ap, sym, subst, is_some, arith}
use Rattle.std.specs.Str.{bytes_eq}
use Rattle.std.specs.BTreeMap.{is_at}
use Rattle.std.specs.List.Sorted.{IsStrictlySortedBy}
use Rattle.std.specs.Map.{keys_of}
use Rattle.fsl_order.specs.Names.{has}
use Rattle.fsl_table.specs.Exact.{pair_cmp}
use Rattle.fsl_table.specs.Contents.{value_at, without_key}
use Rattle.fsl_table.specs.declared.key.Pair.{Pair}
use Rattle.fsl_table.proofs.Entries.{sorted-remove_entry}
use Rattle.fsl_table.specs.Pairs.{is_name}
use Rattle.fsl_table.proofs.PairOrder.{pair_cmp-IsTotalOrder}
use Rattle.fsl_table.proofs.Linking.{pair-without, unlink-step}
use Rattle.fsl_table.proofs.pairs.unlink_each.Goals as goal

pub returns-in_err-remove-clause-undoes : goal.returns-in_err-remove-clause-undoes
returns-in_err-remove-clause-undoes g c = λ before u. c.remove.ensures.undoes before (c.loop-first.invariant.undoes before u)

pub loop-first-preserved : goal.loop-first-preserved
loop-first-preserved g c =
    let i = c.loop-first.first-index in
    let p = c.first-item.result in
    let key : Pair = record { first = p; second = Some c.args.second } in
    let cut : drop i c.args.firsts.now ≡ p ∷ drop (i + 1) c.args.firsts.now = drop_more c.args.firsts.now i p c.loop-first-test.true ∙ ap (λ x. x ∷ drop (i + 1) c.args.firsts.now) (sym c.first-item.is) in
    let out : c.remove.new.table.entries ≡ without_key pair_cmp key c.loop-first.pairs.entries = c.in_ok-remove.ensures.ok in
    record {
      pairs = λ k.
          ap (λ es. not (is_name k.second c.args.second && has (drop (i + 1) c.args.firsts.now) k.first) && is_some (value_at pair_cmp k es)) out
          ∙ ap (λ b. not (is_name k.second c.args.second && has (drop (i + 1) c.args.firsts.now) k.first) && b) (pair-without p c.args.second c.loop-first.pairs.entries c.loop-first.invariant.ordered k)
          ∙ unlink-step (is_name k.second c.args.second) (bytes_eq k.first p) (has (drop (i + 1) c.args.firsts.now) k.first) (is_some (value_at pair_cmp k c.loop-first.pairs.entries)) _
          (ap (λ l. not (is_name k.second c.args.second && has l k.first) && is_some (value_at pair_cmp k c.loop-first.pairs.entries)) (sym cut) ∙ c.loop-first.invariant.pairs k);
      ordered = subst (λ es. IsStrictlySortedBy pair_cmp (keys_of es)) (sym out) (sorted-remove_entry pair_cmp-IsTotalOrder (is_at (pair_cmp key)) c.loop-first.pairs.entries c.loop-first.invariant.ordered);
      undoes = λ before u. c.remove.ensures.undoes before (c.loop-first.invariant.undoes before u);
      cost = omega (arith, c.remove.ensures.cost, c.loop-first.invariant.cost);
      logged = omega (arith, c.remove.ensures.logged, c.loop-first.invariant.logged);
      within = omega (arith, c.loop-first-test.true);
    }
