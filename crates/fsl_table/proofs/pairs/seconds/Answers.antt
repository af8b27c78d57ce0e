use Rattle.std.proofs.Common.{◌≡◌, ◌+◌, ◌<◌, ◌∙◌, ◌∷◌, ◌++◌, [], Some, None, List, ℕ, length, sym, ap, arith, append_assoc}
use Rattle.fsl_table.specs.Pairs.{seconds, left_from, rest_after}
use Rattle.fsl_table.proofs.Seconds.{next_second, seconds_sorted, left_rest, rest_none}
use Rattle.fsl_table.proofs.Seconds.{on_ok}
use Rattle.fsl_table.proofs.pairs.seconds.Goals as goal

pub loop-next-init : goal.loop-next-init
loop-next-init g c =
    let ks = seconds c.args.first c.args.pairs.now.entries in
    let e : left_from c.second_after-next.result ks ≡ ks = ap (λ n. left_from n ks) (c.second_after-next.ensures.next ∙ next_second c.args.first None c.args.pairs.now.entries c.requires)
    ∙ left_rest None ks (seconds_sorted c.args.first c.args.pairs.now.entries c.requires) ∙ rest_none ks in
    let n : length (left_from c.second_after-next.result ks) ≡ length ks = ap length e in
    record { whole = λ i. c.new-list.ensures i ++ e i; cost = omega (arith, n, c.second_after-next.ensures.cost) }

-- what is left after the next child
after_next : (g : _) → (c : goal.After-second_after-next-in-Some g) → left_from c.second_after-next-in-Some.result (seconds c.args.first c.args.pairs.now.entries) ≡ rest_after (Some c.in-Some.second) (seconds c.args.first c.args.pairs.now.entries)
after_next g c =
    let ks = seconds c.args.first c.args.pairs.now.entries in
    ap (λ n. left_from n ks) (c.second_after-next-in-Some.ensures.next ∙ next_second c.args.first (Some c.in-Some.second) c.args.pairs.now.entries c.requires)
    ∙ left_rest (Some c.in-Some.second) ks (seconds_sorted c.args.first c.args.pairs.now.entries c.requires)

before_next : (g : _) → (c : goal.After-second_after-next-in-Some g) → left_from c.loop-next.next (seconds c.args.first c.args.pairs.now.entries) ≡ c.in-Some.second ∷ rest_after (Some c.in-Some.second) (seconds c.args.first c.args.pairs.now.entries)
before_next g c = ap (λ n. left_from n (seconds c.args.first c.args.pairs.now.entries)) c.in-Some.is

shorter : (a b : List (List ℕ)) (c : List ℕ) (r : List (List ℕ)) → a ≡ r → b ≡ c ∷ r → length b ≡ length a + 1
shorter a b c r p q = let n : length a ≡ length r = ap length p in let m : length b ≡ length (c ∷ r) = ap length q in omega (arith, n, m)

pub loop-next-smaller : goal.loop-next-smaller
loop-next-smaller g c =
    let ks = seconds c.args.first c.args.pairs.now.entries in
    let n = shorter (left_from c.second_after-next-in-Some.result ks) (left_from c.loop-next.next ks) c.in-Some.second (rest_after (Some c.in-Some.second) ks) (after_next g c) (before_next g c) in
    let less : length (left_from c.second_after-next-in-Some.result ks) < length (left_from c.loop-next.next ks) = omega (arith, n) in
    less

pub loop-next-preserved : goal.loop-next-preserved
loop-next-preserved g c =
    let ks = seconds c.args.first c.args.pairs.now.entries in
    let rest = rest_after (Some c.in-Some.second) ks in
    let n = shorter (left_from c.second_after-next-in-Some.result ks) (left_from c.loop-next.next ks) c.in-Some.second rest (after_next g c) (before_next g c) in
    record {
      whole =
          (λ i. c.push.new.self ++ after_next g c i)
          ∙ ap (λ l. l ++ rest) (on_ok _ c.push.result (sym c.is_err.ensures.value ∙ c.if-is_err.false) c.push.ensures.ok)
          ∙ append_assoc c.loop-next.list (c.in-Some.second ∷ []) rest
          ∙ ap (λ l. c.loop-next.list ++ l) (sym (before_next g c))
          ∙ c.loop-next.invariant.whole;
      cost = omega (arith, n, c.second_after-next-in-Some.ensures.cost, c.loop-next.invariant.cost);
    }
