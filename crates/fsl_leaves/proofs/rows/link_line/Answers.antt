use mathlib.Core.Bool.{true≢false}
use Rattle.std.proofs.Common.{refl, ℕ, ◌+◌, ◌*◌, ◌≤◌, length, ◌||◌, not, if◌then◌else◌, ◌∙◌, sym, arith, Result, Ok, Err}
use Rattle.std.specs.Prelude.{IsErr, OnOk}
use Rattle.std.specs.Str.{bytes_eq}
use Rattle.fsl_table.proofs.Outcomes.{on_ok_map, always_ok}
use Rattle.fsl_leaves.proofs.rows.link_line.Goals as goal

failed : {X E : Type 0} (r : Result X E) → IsErr r → (P : Type 0) → OnOk r P
failed (Ok x) fails P = absurd (true≢false (sym fails))
failed (Err e) fails P = tt

-- the counts after each step
cost_1 : (n s0 s1 : ℕ) → s1 ≤ s0 + 1 → s1 ≤ s0 + (3 + 4 * n)
cost_1 n s0 s1 a = omega (arith, a)

cost_2 : (n s0 s1 s2 : ℕ) → s1 ≤ s0 + 1 → s2 ≤ s1 + n → s2 ≤ s0 + (3 + 4 * n)
cost_2 n s0 s1 s2 a b = omega (arith, a, b)

cost_3 : (n s0 s1 s2 s3 : ℕ) → s1 ≤ s0 + 1 → s2 ≤ s1 + n → s3 ≤ s2 + 3 * n → s3 ≤ s0 + (3 + 4 * n)
cost_3 n s0 s1 s2 s3 a b c = omega (arith, a, b, c)

cost_4 : (n s0 s1 s2 s3 s4 : ℕ) → s1 ≤ s0 + 1 → s2 ≤ s1 + n → s3 ≤ s2 + 3 * n → s4 ≤ s3 + 2 → s4 ≤ s0 + (3 + 4 * n)
cost_4 n s0 s1 s2 s3 s4 a b c d = omega (arith, a, b, c, d)

-- the steps back after each step
logged_1 : (n k l : ℕ) → k + l ≤ k + l + (1 + 2 * n)
logged_1 n k l = omega arith

logged_2 : (n k0 k1 l : ℕ) → k1 ≤ k0 + n → k1 + l ≤ k0 + l + (1 + 2 * n)
logged_2 n k0 k1 l a = omega (arith, a)

logged_3 : (n k0 k1 l0 l1 : ℕ) → k1 ≤ k0 + n → l1 ≤ l0 + n → k1 + l1 ≤ k0 + l0 + (1 + 2 * n)
logged_3 n k0 k1 l0 l1 a b = omega (arith, a, b)

logged_4 : (n k0 k1 l0 l1 l2 : ℕ) → k1 ≤ k0 + n → l1 ≤ l0 + n → l2 ≤ l1 + 1 → k1 + l2 ≤ k0 + l0 + (1 + 2 * n)
logged_4 n k0 k1 l0 l1 l2 a b d = omega (arith, a, b, d)

pub returns-in_err-continued : goal.returns-in_err-continued
returns-in_err-continued g c =
    let fails = c.from_residual.ensures.0 in
    rw (← c.items-parents.ensures) (record {
      pairs_ordered = failed c.from_residual.result fails _;
      leaves_ordered = failed c.from_residual.result fails _;
      pairs = failed c.from_residual.result fails _;
      leaves = failed c.from_residual.result fails _;
      flips = failed c.from_residual.result fails _;
      children_was = refl;
      leaves_was = refl;
      cost = cost_1 (length c.items-parents.result.now) c.args.steps.now c.is_continued.new.steps c.is_continued.ensures.cost;
      back = logged_1 (length c.items-parents.result.now) c.args.children.now.back c.args.leaves.now.back;
    })

pub returns-in_err-link_each : goal.returns-in_err-link_each
returns-in_err-link_each g c =
    let fails = c.from_residual-in_err-link_each.ensures.0 in
    rw (← c.items-parents.ensures) (record {
      pairs_ordered = failed c.from_residual-in_err-link_each.result fails _;
      leaves_ordered = failed c.from_residual-in_err-link_each.result fails _;
      pairs = failed c.from_residual-in_err-link_each.result fails _;
      leaves = failed c.from_residual-in_err-link_each.result fails _;
      flips = failed c.from_residual-in_err-link_each.result fails _;
      children_was = c.link_each.ensures.was;
      leaves_was = refl;
      cost = cost_2 (length c.items-parents.result.now) c.args.steps.now c.is_continued.new.steps c.link_each.new.steps c.is_continued.ensures.cost c.link_each.ensures.most;
      back = logged_2 (length c.items-parents.result.now) c.args.children.now.back c.link_each.new.children.back c.args.leaves.now.back c.link_each.ensures.back;
    })

pub returns-in_err-end_leaves : goal.returns-in_err-end_leaves
returns-in_err-end_leaves g c =
    let fails = c.from_residual-in_err-end_leaves.ensures.0 in
    rw (← c.items-parents.ensures) (record {
      pairs_ordered = failed c.from_residual-in_err-end_leaves.result fails _;
      leaves_ordered = failed c.from_residual-in_err-end_leaves.result fails _;
      pairs = failed c.from_residual-in_err-end_leaves.result fails _;
      leaves = failed c.from_residual-in_err-end_leaves.result fails _;
      flips = failed c.from_residual-in_err-end_leaves.result fails _;
      children_was = c.link_each.ensures.was;
      leaves_was = c.end_leaves.ensures.was;
      cost = cost_3 (length c.items-parents.result.now) c.args.steps.now c.is_continued.new.steps c.link_each.new.steps c.end_leaves.new.steps c.is_continued.ensures.cost c.link_each.ensures.most c.end_leaves.ensures.most;
      back = logged_3 (length c.items-parents.result.now) c.args.children.now.back c.link_each.new.children.back c.args.leaves.now.back c.end_leaves.new.leaves.back c.link_each.ensures.back c.end_leaves.ensures.back;
    })

pub returns : goal.returns
returns g c =
    let put = c.set_leaf.ensures in
    rw (← c.items-parents.ensures) (record {
      pairs_ordered = always_ok c.set_leaf.result c.in_ok-link_each.ensures.ordered;
      leaves_ordered = put.ordered;
      pairs = always_ok c.set_leaf.result c.in_ok-link_each.ensures.pairs;
      leaves = on_ok_map c.set_leaf.result
          (λ set q. set q ∙ (λ i. if bytes_eq q c.args.name
          then (c.neither-ended.ensures ∙ (λ j. not (c.in_ok-continued.ensures.is j || c.stands_in.ensures j))) i
          else c.in_ok-end_leaves.ensures.leaves q i))
          put.leaves;
      flips = on_ok_map c.set_leaf.result (λ set before all. set before (c.in_ok-end_leaves.ensures.flips before all)) put.flips;
      children_was = c.link_each.ensures.was;
      leaves_was = put.was ∙ c.end_leaves.ensures.was;
      cost = cost_4 (length c.items-parents.result.now) c.args.steps.now c.is_continued.new.steps c.link_each.new.steps c.end_leaves.new.steps c.set_leaf.new.steps c.is_continued.ensures.cost c.link_each.ensures.most c.end_leaves.ensures.most c.set_leaf.ensures.most;
      back = logged_4 (length c.items-parents.result.now) c.args.children.now.back c.link_each.new.children.back c.args.leaves.now.back c.end_leaves.new.leaves.back c.set_leaf.new.leaves.back c.link_each.ensures.back c.end_leaves.ensures.back c.set_leaf.ensures.back;
    })
