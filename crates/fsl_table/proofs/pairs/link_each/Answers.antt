use Rattle.std.proofs.lemmas.List.{drop_more}
use Rattle.std.proofs.Common.{◌≡◌, ◌||◌, ◌&&◌, ◌∙◌, ◌∷◌, ◌+◌, Some, drop, ap, sym, subst, is_some, arith}
use Rattle.std.specs.Str.{bytes_eq}
use Rattle.std.specs.List.Sorted.{IsStrictlySortedBy}
use Rattle.std.specs.Map.{keys_of}
use Rattle.fsl_order.specs.Names.{has}
use Rattle.fsl_table.specs.Exact.{pair_cmp}
use Rattle.fsl_table.specs.Contents.{value_at, with_entry}
use Rattle.fsl_table.proofs.Entries.{sorted-insert_entry}
use Rattle.fsl_table.specs.Pairs.{is_name}
use Rattle.fsl_table.proofs.PairOrder.{pair_cmp-IsTotalOrder}
use Rattle.fsl_table.proofs.Linking.{pair-with, link-step}
use Rattle.fsl_table.proofs.pairs.link_each.Goals as goal

pub returns-in_err-put-clause-undoes : goal.returns-in_err-put-clause-undoes
returns-in_err-put-clause-undoes g c = λ before u. c.put.ensures.undoes before (c.loop-first.invariant.undoes before u)

pub loop-first-preserved : goal.loop-first-preserved
loop-first-preserved g c =
    let i = c.loop-first.first-index in
    let p = c.first-item.result in
    let cut : drop i c.args.firsts.now ≡ p ∷ drop (i + 1) c.args.firsts.now = drop_more c.args.firsts.now i p c.loop-first-test.true ∙ ap (λ x. x ∷ drop (i + 1) c.args.firsts.now) (sym c.first-item.is) in
    let put : c.put.new.table.entries ≡ with_entry pair_cmp (record { first = p; second = Some c.args.second }) tt c.loop-first.pairs.entries = c.in_ok-put.ensures.ok in
    record {
      pairs = λ k.
          ap (λ es. is_some (value_at pair_cmp k es) || (is_name k.second c.args.second && has (drop (i + 1) c.args.firsts.now) k.first)) put
          ∙ ap (λ b. b || (is_name k.second c.args.second && has (drop (i + 1) c.args.firsts.now) k.first)) (pair-with p c.args.second c.loop-first.pairs.entries k)
          ∙ link-step (is_name k.second c.args.second) (bytes_eq k.first p) (is_some (value_at pair_cmp k c.loop-first.pairs.entries)) (has (drop (i + 1) c.args.firsts.now) k.first) _
          (ap (λ l. is_some (value_at pair_cmp k c.loop-first.pairs.entries) || (is_name k.second c.args.second && has l k.first)) (sym cut) ∙ c.loop-first.invariant.pairs k);
      ordered = λ s. subst (λ es. IsStrictlySortedBy pair_cmp (keys_of es)) (sym put) (sorted-insert_entry pair_cmp-IsTotalOrder _ tt c.loop-first.pairs.entries (c.loop-first.invariant.ordered s));
      undoes = λ before u. c.put.ensures.undoes before (c.loop-first.invariant.undoes before u);
      cost = omega (arith, c.put.ensures.cost, c.loop-first.invariant.cost);
      logged = omega (arith, c.put.ensures.logged, c.loop-first.invariant.logged);
      within = omega (arith, c.loop-first-test.true);
    }
