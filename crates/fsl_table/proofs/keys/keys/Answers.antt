use Rattle.std.proofs.Common.{◌≡◌, ◌+◌, ◌<◌, ◌∙◌, ◌∷◌, ◌++◌, [], Some, None, List, ℕ, length, sym, ap, arith, append_assoc}
use Rattle.std.specs.Map.{keys_of}
use Rattle.fsl_table.specs.Pairs.{left_from, rest_after}
use Rattle.fsl_table.proofs.Seconds.{left_rest, rest_none, on_ok}
use Rattle.fsl_table.proofs.keys.keys.Goals as goal

pub loop-next-init : goal.loop-next-init
loop-next-init g c =
    let ks = keys_of c.args.table.now.entries in
    let e : left_from c.name_after-next.result ks ≡ ks = ap (λ n. left_from n ks) c.name_after-next.ensures ∙ left_rest None ks c.requires ∙ rest_none ks in
    λ i. c.new-list.ensures i ++ e i

-- what is left after the next name
after_next : (g : _) → (c : goal.After-name_after-next-in-Some g) → left_from c.name_after-next-in-Some.result (keys_of c.args.table.now.entries) ≡ rest_after (Some c.in-Some.name) (keys_of c.args.table.now.entries)
after_next g c =
    let ks = keys_of c.args.table.now.entries in
    ap (λ n. left_from n ks) c.name_after-next-in-Some.ensures ∙ left_rest (Some c.in-Some.name) ks c.requires

before_next : (g : _) → (c : goal.After-name_after-next-in-Some g) → left_from c.loop-next.next (keys_of c.args.table.now.entries) ≡ c.in-Some.name ∷ rest_after (Some c.in-Some.name) (keys_of c.args.table.now.entries)
before_next g c = ap (λ n. left_from n (keys_of c.args.table.now.entries)) c.in-Some.is

shorter : (a b : List (List ℕ)) (c : List ℕ) (r : List (List ℕ)) → a ≡ r → b ≡ c ∷ r → length b ≡ length a + 1
shorter a b c r p q = let n : length a ≡ length r = ap length p in let m : length b ≡ length (c ∷ r) = ap length q in omega (arith, n, m)

pub loop-next-smaller : goal.loop-next-smaller
loop-next-smaller g c =
    let ks = keys_of c.args.table.now.entries in
    let n = shorter (left_from c.name_after-next-in-Some.result ks) (left_from c.loop-next.next ks) c.in-Some.name (rest_after (Some c.in-Some.name) ks) (after_next g c) (before_next g c) in
    let less : length (left_from c.name_after-next-in-Some.result ks) < length (left_from c.loop-next.next ks) = omega (arith, n) in
    less

pub loop-next-preserved : goal.loop-next-preserved
loop-next-preserved g c =
    let ks = keys_of c.args.table.now.entries in
    let rest = rest_after (Some c.in-Some.name) ks in
    (λ i. c.push.new.self ++ after_next g c i)
    ∙ ap (λ l. l ++ rest) (on_ok _ c.push.result (sym c.is_err.ensures.value ∙ c.if-is_err.false) c.push.ensures.ok)
    ∙ append_assoc c.loop-next.list (c.in-Some.name ∷ []) rest
    ∙ ap (λ l. c.loop-next.list ++ l) (sym (before_next g c))
    ∙ c.loop-next.invariant
