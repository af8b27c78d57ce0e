use Rattle.std.proofs.lemmas.List.{drop_more}
use Rattle.std.proofs.Math.Seq.{drop-length}
use Rattle.std.proofs.Common.{◌≡◌, ◌+◌, ◌-◌, ◌<◌, ◌∙◌, ◌∷◌, drop, length, sym, ap, arith}
use Rattle.fsl_order.specs.Names.{bytes_cmp}
use Rattle.fsl_table.specs.Contents.{value_at}
use Rattle.fsl_ticket.specs.Seen.{value_in}
use Rattle.fsl_ticket.specs.Walked.{made_at, value_down}
use Rattle.fsl_ticket.proofs.walk.values_of.Goals as goal

pub loop-left-init : goal.loop-left-init
loop-left-init g c = record {
  within = omega arith;
  done = λ q. ap (λ es. value_in es q) c.new-values.ensures.empty ∙ ap (λ ns. value_down c.args.facts.now.held.entries ns q) (sym (drop-length c.args.names.now));
}

pub loop-left-preserved : goal.loop-left-preserved
loop-left-preserved g c =
    let es = c.args.facts.now.held.entries in
    let names = c.args.names.now in
    let j = c.loop-left.left - 1 in
    let n = c.index-names-left.result in
    let rest = drop c.loop-left.left names in
    let e : j + 1 ≡ c.loop-left.left = omega (arith, c.loop-left-test.true) in
    let less : j < length names = omega (arith, c.loop-left-test.true, c.loop-left.invariant.within) in
    let cut : drop j names ≡ n ∷ rest = drop_more names j n less ∙ (λ i. (sym c.index-names-left.is) i ∷ drop (e i) names) in
    record {
      within = omega (arith, c.loop-left.invariant.within);
      done = λ q. c.in_ok-take_change.ensures.taken q ∙ ap (made_at (value_at bytes_cmp n es) q) (c.loop-left.invariant.done q) ∙ ap (λ ns. value_down es ns q) (sym cut);
    }
