use Rattle.std.proofs.Common.{◌≡◌, ◌+◌, ◌<◌, ◌||◌, ◌&&◌, ◌∙◌, ◌∷◌, Bool, Some, None, true, List, ℕ, length, sym, ap, arith}
use Rattle.std.specs.Str.{bytes_eq}
use Rattle.std.specs.Cmp.Lexicographic.{bytes_decides}
use Rattle.fsl_order.specs.Names.{has}
use Rattle.fsl_table.specs.Pairs.{seconds, left_from, rest_after}
use Rattle.fsl_links.specs.Kept.{waits}
use Rattle.fsl_table.proofs.Seconds.{next_second, seconds_sorted, left_rest, rest_none}
use Rattle.fsl_links.proofs.Waiting.{waiting_second, skip, note_one, done_noting}
use Rattle.fsl_links.proofs.rows.note_waiting.Goals.{then-is_waiting+in_ok-note, else-is_waiting}
use Rattle.fsl_links.proofs.rows.note_waiting.Goals as goal

-- what is left after a child
after : (g : _) → (c : goal.After-second_after-next g) → left_from c.second_after-next.result (seconds c.args.parent c.args.children.now.held.entries) ≡ seconds c.args.parent c.args.children.now.held.entries
after g c =
    let ks = seconds c.args.parent c.args.children.now.held.entries in
    ap (λ n. left_from n ks) (c.second_after-next.ensures.next ∙ next_second c.args.parent None c.args.children.now.held.entries c.requires.pairs_ordered)
    ∙ left_rest None ks (seconds_sorted c.args.parent c.args.children.now.held.entries c.requires.pairs_ordered) ∙ rest_none ks

pub loop-next-init : goal.loop-next-init
loop-next-init g c =
    let e = after g c in
    record {
      noted = λ q. ap (λ l. (waits c.args.facts.now.held.entries c.args.parent q && has l q) || has c.args.names.now.keys q) e;
      cost = rw e (omega (arith, c.second_after-next.ensures.cost));
    }

-- what is left after the next child
after_child : (g : _) → (c : goal.After-second_after-next-in-Some g) → left_from c.second_after-next-in-Some.result (seconds c.args.parent c.args.children.now.held.entries) ≡ rest_after (Some c.in-Some.child) (seconds c.args.parent c.args.children.now.held.entries)
after_child g c =
    let ks = seconds c.args.parent c.args.children.now.held.entries in
    ap (λ n. left_from n ks) (c.second_after-next-in-Some.ensures.next ∙ next_second c.args.parent (Some c.in-Some.child) c.args.children.now.held.entries c.requires.pairs_ordered)
    ∙ left_rest (Some c.in-Some.child) ks (seconds_sorted c.args.parent c.args.children.now.held.entries c.requires.pairs_ordered)

before_child : (g : _) → (c : goal.After-second_after-next-in-Some g) → left_from c.loop-next.next (seconds c.args.parent c.args.children.now.held.entries) ≡ c.in-Some.child ∷ rest_after (Some c.in-Some.child) (seconds c.args.parent c.args.children.now.held.entries)
before_child g c = ap (λ n. left_from n (seconds c.args.parent c.args.children.now.held.entries)) c.in-Some.is

shorter : (a b : List (List ℕ)) (c : List ℕ) (r : List (List ℕ)) → a ≡ r → b ≡ c ∷ r → length b ≡ length a + 1
shorter a b c r p q = let n : length a ≡ length r = ap length p in let m : length b ≡ length (c ∷ r) = ap length q in omega (arith, n, m)

pub loop-next-smaller : goal.loop-next-smaller
loop-next-smaller g c =
    let ks = seconds c.args.parent c.args.children.now.held.entries in
    let n = shorter (left_from c.second_after-next-in-Some.result ks) (left_from c.loop-next.next ks) c.in-Some.child (rest_after (Some c.in-Some.child) ks) (after_child g c) (before_child g c) in
    let less : length (left_from c.second_after-next-in-Some.result ks) < length (left_from c.loop-next.next ks) = omega (arith, n) in
    less

pub loop-next-preserved : goal.loop-next-preserved
loop-next-preserved g c =
    let ks = seconds c.args.parent c.args.children.now.held.entries in
    let child = c.in-Some.child in
    let rest = rest_after (Some child) ks in
    let n = shorter (left_from c.second_after-next-in-Some.result ks) (left_from c.loop-next.next ks) child rest (after_child g c) (before_child g c) in
    let w : List ℕ → Bool = λ q. waits c.args.facts.now.held.entries c.args.parent q in
    let was : (q : List ℕ) → ((w q && (bytes_eq q child || has rest q)) || has c.loop-next.names.keys q) ≡ ((w q && has ks q) || has c.args.names.now.keys q) = λ q.
    ap (λ l. (w q && has l q) || has c.loop-next.names.keys q) (sym (before_child g c)) ∙ c.loop-next.invariant.noted q in
    let is : (q : List ℕ) → bytes_eq q child ≡ true → w q ≡ c.is_waiting.result = λ q e. ap w ((bytes_decides q child).0 e) ∙ sym c.is_waiting.ensures.waits in
    record {
      noted = λ q.
          ap (λ l. (w q && has l q) || has c.if-is_waiting.names.keys q) (after_child g c)
          ∙ elim c.if-is_waiting.branch [
            | then-is_waiting+in_ok-note b ↦
                ap (λ s. (w q && has rest q) || has s.keys q) b.names-is ∙ ap (λ x. (w q && has rest q) || x) (b.in_ok-note.ensures.noted q)
                ∙ note_one (w q) (bytes_eq q child) (has rest q) (has c.loop-next.names.keys q) ((w q && has ks q) || has c.args.names.now.keys q) (λ e. is q e ∙ b.if-is_waiting.true) (was q)
            | else-is_waiting b ↦
                ap (λ s. (w q && has rest q) || has s.keys q) b.names-is
                ∙ skip (w q) (bytes_eq q child) (has rest q) (has c.loop-next.names.keys q) ((w q && has ks q) || has c.args.names.now.keys q) (λ e. is q e ∙ b.if-is_waiting.false) (was q)
          ];
      cost = omega (arith, n, c.loop-next.invariant.cost, c.is_waiting.ensures.cost, c.second_after-next-in-Some.ensures.cost);
    }

pub returns-clause-noted : goal.returns-clause-noted
returns-clause-noted g c = λ q.
    let ks = seconds c.args.parent c.args.children.now.held.entries in
    done_noting (waits c.args.facts.now.held.entries c.args.parent q) (has ks q) (has c.args.names.now.keys q) (has c.loop-next.names.keys q)
    (waiting_second c.args.facts.now.held.entries c.args.children.now.held.entries c.args.parent q c.requires.pairs)
    (ap (λ n. (waits c.args.facts.now.held.entries c.args.parent q && has (left_from n ks) q) || has c.loop-next.names.keys q) (sym c.in_default.is) ∙ c.loop-next.invariant.noted q)
