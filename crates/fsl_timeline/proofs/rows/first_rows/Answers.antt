use Rattle.std.proofs.Common.{◌≡◌, ◌+◌, ◌<◌, ◌∙◌, ◌∷◌, ◌++◌, List, ℕ, take, length, sym, ap, arith}
use Rattle.std.specs.Option.{option_map}
use Rattle.fsl_order.specs.Names.{latest_first}
use Rattle.fsl_order.proofs.Orders.{latest_first-IsTotalOrder}
use Rattle.fsl_table.specs.Contents.{entries_after}
use Rattle.fsl_table.proofs.Walk.{from, from_first, from_next}
use Rattle.fsl_timeline.specs.Kept.{Places, rows_at, row_at, put_before}
use Rattle.fsl_timeline.proofs.rows.first_rows.Goals as goal

pub loop-next-init : goal.loop-next-init
loop-next-init g c =
    let ps = c.args.places.now.entries in
    let all : from latest_first (option_map (λ p. (p.0.now, p.1.now)) c.first-next.result) ps ≡ ps = ap (λ o. from latest_first o ps) c.first-next.ensures.entry ∙ from_first latest_first-IsTotalOrder ps c.requires in
    λ i. c.new-list.ensures i ++ take c.args.count (rows_at c.args.rows.now.entries (all i))

-- what is left after a place, and with it
after_place : (g : _) → (c : goal.After-next_after-next g) → from latest_first (option_map (λ p. (p.0.now, p.1.now)) c.next_after-next.result) c.args.places.now.entries ≡ entries_after latest_first c.in-Some.place.now c.args.places.now.entries
after_place g c =
    ap (λ o. from latest_first o c.args.places.now.entries) c.next_after-next.ensures.entry ∙ from_next latest_first-IsTotalOrder c.in-Some.place.now c.args.places.now.entries c.requires

at_place : (g : _) → (c : goal.After-next_after-next g) → from latest_first (option_map (λ p. (p.0.now, p.1.now)) c.loop-next.next) c.args.places.now.entries ≡ (c.in-Some.place.now, tt) ∷ entries_after latest_first c.in-Some.place.now c.args.places.now.entries
at_place g c = ap (λ n. from latest_first (option_map (λ p. (p.0.now, p.1.now)) n) c.args.places.now.entries) c.in-Some.is

shorter : (a b : Places) (p : (ℕ × List ℕ) × Unit {0}) (r : Places) → a ≡ r → b ≡ p ∷ r → length b ≡ length a + 1
shorter a b p r x y = let n : length a ≡ length r = ap length x in let m : length b ≡ length (p ∷ r) = ap length y in omega (arith, n, m)

pub loop-next-smaller : goal.loop-next-smaller
loop-next-smaller g c =
    let ps = c.args.places.now.entries in
    let a = from latest_first (option_map (λ p. (p.0.now, p.1.now)) c.next_after-next.result) ps in
    let b = from latest_first (option_map (λ p. (p.0.now, p.1.now)) c.loop-next.next) ps in
    let n = shorter a b (c.in-Some.place.now, tt) (entries_after latest_first c.in-Some.place.now ps) (after_place g c) (at_place g c) in
    let less : length a < length b = omega (arith, n) in
    less

pub loop-next-preserved : goal.loop-next-preserved
loop-next-preserved g c =
    let es = c.args.rows.now.entries in
    let rest = entries_after latest_first c.in-Some.place.now c.args.places.now.entries in
    ap (λ l. c.take_row.new.list ++ take c.in_ok-left.left (rows_at es l)) (after_place g c)
    ∙ c.in_ok-left.ensures.step (rows_at es rest)
    ∙ ap (λ r. c.loop-next.list ++ take c.loop-next.left (put_before r (rows_at es rest))) (c.in_ok-row.ensures ∙ ap (row_at es) c.name.ensures)
    ∙ ap (λ l. c.loop-next.list ++ take c.loop-next.left (rows_at es l)) (sym (at_place g c))
    ∙ c.loop-next.invariant
