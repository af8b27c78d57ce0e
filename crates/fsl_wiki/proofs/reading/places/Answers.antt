use Rattle.std.proofs.Common.{rules, ◌≡◌, ◌∙◌, ◌+◌, ◌<◌, ◌++◌, ◌∷◌, List, ℕ, [], refl, sym, ap, arith, length}
use Rattle.std.specs.Option.{option_map}
use Rattle.std.specs.Map.{keys_of}
use Rattle.std.proofs.lemmas.List.{append_assoc}
use Rattle.fsl_table.specs.Contents.{entries_after, first_of}
use Rattle.fsl_table.specs.Within.{within}
use Rattle.fsl_table.proofs.Belonging.{within_sorted}
use Rattle.fsl_table.proofs.Walk.{from, from_first, from_next}
use Rattle.fsl_wiki.specs.Late.{late_cmp, late_cmp-IsTotalOrder}
use Rattle.fsl_wiki.proofs.reading.places.Goals as goal

abbrev Spots : Type 0
Spots = List ((ℕ × List ℕ) × Unit {0})

shorter : (a b : Spots) (p : (ℕ × List ℕ) × Unit {0}) (r : Spots) → a ≡ r → b ≡ p ∷ r → length b ≡ length a + 1
shorter a b p r x y = let n : length a ≡ length r = ap length x in let m : length b ≡ length (p ∷ r) = ap length y in omega (arith, n, m)

pub loop-next-init : goal.loop-next-init
loop-next-init g c =
    let table = c.args.table.now.entries in
    let ws = within g.A.Ord.cmp c.args.first table in
    record {
      first = refl;
      done = ap (λ l. l ++ keys_of (from late_cmp (option_map (λ b. (b, tt)) c.next_within-next.result) ws)) c.new-places.ensures.items
          ∙ ap keys_of (ap (λ o. from late_cmp o ws) c.next_within-next.ensures.next
          ∙ from_first late_cmp-IsTotalOrder ws (within_sorted g.A.Ord.cmp late_cmp g.met.A.Ord.total g.met.A.Key.exact c.args.first table c.requires));
    }

pub loop-next-smaller : goal.loop-next-smaller
loop-next-smaller g c =
    let table = c.args.table.now.entries in
    let ws = within g.A.Ord.cmp c.args.first table in
    let late = c.in-Some.late in
    let a = from late_cmp (option_map (λ b. (b, tt)) c.next_within-next-in-Some.result) ws in
    let b = from late_cmp (option_map (λ b. (b, tt)) c.loop-next.next) ws in
    let n = shorter a b (late, tt) (entries_after late_cmp late ws)
    (ap (λ o. from late_cmp o ws) (c.next_within-next-in-Some.ensures.next ∙ ap (λ f. first_of (entries_after late_cmp late (within g.A.Ord.cmp f table))) c.loop-next.invariant.first)
    ∙ from_next late_cmp-IsTotalOrder late ws (within_sorted g.A.Ord.cmp late_cmp g.met.A.Ord.total g.met.A.Key.exact c.args.first table c.requires))
    (ap (λ n. from late_cmp (option_map (λ b. (b, tt)) n) ws) c.in-Some.is) in
    let less : length a < length b = omega (arith, n) in
    less

pub loop-next-preserved : goal.loop-next-preserved
loop-next-preserved g c =
    let table = c.args.table.now.entries in
    let ws = within g.A.Ord.cmp c.args.first table in
    let late = c.in-Some.late in
    let rest = entries_after late_cmp late ws in
    let pushed : c.push.new.self.items ≡ c.loop-next.places.items ++ late ∷ [] = search rules in
    record {
      first = c.loop-next.invariant.first;
      done = (λ i. pushed i ++ keys_of (from late_cmp (option_map (λ b. (b, tt)) c.next_within-next-in-Some.result) ws))
          ∙ ap (λ l. (c.loop-next.places.items ++ late ∷ []) ++ keys_of l)
          (ap (λ o. from late_cmp o ws) (c.next_within-next-in-Some.ensures.next ∙ ap (λ f. first_of (entries_after late_cmp late (within g.A.Ord.cmp f table))) c.loop-next.invariant.first)
          ∙ from_next late_cmp-IsTotalOrder late ws (within_sorted g.A.Ord.cmp late_cmp g.met.A.Ord.total g.met.A.Key.exact c.args.first table c.requires))
          ∙ append_assoc c.loop-next.places.items (late ∷ []) (keys_of rest)
          ∙ ap (λ n. c.loop-next.places.items ++ keys_of (from late_cmp (option_map (λ b. (b, tt)) n) ws)) (sym c.in-Some.is)
          ∙ c.loop-next.invariant.done;
    }
