-- All tables after one post was put.
use mathlib.Core.Bool.{true≢false}
use Rattle.std.specs.Prelude.{◌≡◌, ℕ, List, true, false, cond, if◌then◌else◌, Option, Some, None, option_and_then, option_map, map}
use Rattle.std.proofs.Common.{refl, sym, ap, ◌∙◌, subst}
use Rattle.std.specs.Str.{bytes_eq}
use Rattle.std.specs.List.Sorted.{IsStrictlySortedBy}
use Rattle.std.specs.Map.{keys_of}
use Rattle.std.specs.Cmp.Lexicographic.{bytes_decides}
use Rattle.fsl_order.specs.Names.{bytes_cmp, has}
use Rattle.fsl_order.specs.Rows.{ListsChanged}
use Rattle.fsl_order.proofs.Orders.{bytes_cmp-IsTotalOrder}
use Rattle.fsl_table.specs.Contents.{value_at, with_entry}
use Rattle.fsl_table.proofs.Entries.{sorted-insert_entry}
use Rattle.fsl_table.proofs.Facts.{named-facts}
use Rattle.fsl_table.proofs.Finding.{value-with}
use Rattle.fsl_forum.specs.declared.Fact.{Fact}
use Rattle.fsl_forum.specs.declared.node.Node.{Node}
use Rattle.fsl_forum.specs.Held.{Nodes, Rows, IsKept, AreOf, fact_of, facts_of, node_of}
use Rattle.fsl_forum.specs.Kept.{place_by}
use Rattle.fsl_forum.specs.Rows.{Row, differing, noted_in, place_of, row_by, row_in}
use Rattle.fsl_forum.specs.Reached.{IsStep}
use Rattle.fsl_forum.specs.Threads.{post, next, next_of, end, place, kind, threads_row}
use Rattle.fsl_forum.proofs.Climbs.{named_so}
use Rattle.fsl_forum.proofs.Linked.{of-alike}
use Rattle.fsl_forum.proofs.Noting.{lists_changed}

-- the post of a name is that of its entry
pub post-is : (es : Nodes) (x : List ℕ) → post (facts_of es) x ≡ option_map (λ n. fact_of (x, n)) (value_at bytes_cmp x es)
post-is es x = named-facts fact_of (λ f. f.name) (λ e. refl) es x

pub next-is : (es : Nodes) (x : List ℕ) → next_of (facts_of es) x ≡ option_and_then (λ n. next (fact_of (x, n))) (value_at bytes_cmp x es)
next-is es x = ap (option_and_then next) (post-is es x) ∙ by (value_at bytes_cmp x es)
  where
    by : (o : Option Node) → option_and_then next (option_map (λ n. fact_of (x, n)) o) ≡ option_and_then (λ n. next (fact_of (x, n))) o
    by None = refl
    by (Some n) = refl

-- a place is by the end of the chain of the name
pub place-at : (facts : List Fact) (x : List ℕ) → place facts x ≡ option_and_then (λ f. place_by (end facts x) f) (post facts x)
place-at facts x =
    elim (post facts x) as (λ o. post facts x ≡ o → option_and_then (λ f. place_by (end facts f.name) f) o ≡ option_and_then (λ f. place_by (end facts x) f) o) [
      | None ↦ λ _. refl
      | Some f ↦ λ p. ap (λ n. place_by (end facts n) f) (named_so facts facts x f p)
    ] refl

pub place-is : (es : Nodes) (x : List ℕ) → place (facts_of es) x ≡ option_and_then (λ n. place_by (end (facts_of es) x) (fact_of (x, n))) (value_at bytes_cmp x es)
place-is es x = place-at (facts_of es) x ∙ ap (option_and_then (λ f. place_by (end (facts_of es) x) f)) (post-is es x) ∙ by (value_at bytes_cmp x es)
  where
    by : (o : Option Node) → option_and_then (λ f. place_by (end (facts_of es) x) f) (option_map (λ n. fact_of (x, n)) o) ≡ option_and_then (λ n. place_by (end (facts_of es) x) (fact_of (x, n))) o
    by None = refl
    by (Some n) = refl

abbrev paired : Fact → Option (List ℕ) → Row
paired f place = option_map (λ root. (root, kind f)) place

-- the row of a name, where the ends are right
pub row-is : (es : Nodes) (ends : List (List ℕ × List ℕ)) → ((x : List ℕ) → value_at bytes_cmp x ends ≡ end (facts_of es) x) → (x : List ℕ) → row_in es ends x ≡ threads_row (facts_of es) x
row-is es ends right x =
    (λ i. option_and_then (λ n. row_by (right x i) (fact_of (x, n))) (value_at bytes_cmp x es))
    ∙ by (value_at bytes_cmp x es)
    ∙ sym (λ i. option_and_then (λ f. paired f (place-is es x i)) (post-is es x i))
  where
    by : (o : Option Node) → option_and_then (λ n. row_by (end (facts_of es) x) (fact_of (x, n))) o
        ≡ option_and_then (λ f. paired f (option_and_then (λ n. place_by (end (facts_of es) x) (fact_of (x, n))) o)) (option_map (λ n. fact_of (x, n)) o)
    by None = refl
    by (Some n) = refl

pub thread-is : (facts : List Fact) (x : List ℕ) → place_of (threads_row facts x) ≡ place facts x
thread-is facts x = by (post facts x)
  where
    inner : (f : Fact) (o : Option (List ℕ)) → place_of (paired f o) ≡ o
    inner f None = refl
    inner f (Some root) = refl

    by : (o : Option Fact) → place_of (option_and_then (λ f. paired f (option_and_then (λ f. place_by (end facts f.name) f) o)) o) ≡ option_and_then (λ f. place_by (end facts f.name) f) o
    by None = refl
    by (Some f) = inner f (place_by (end facts f.name) f)

module _ (old new : Rows) (fact : Fact) (names : List (List ℕ)) (found : Option (List ℕ)) (kept : IsKept old)
    (posts : new.posts.entries ≡ with_entry bytes_cmp fact.name (node_of fact) old.posts.entries)
    (step : IsStep (facts_of old.posts.entries) fact.name (next fact) names found)
    (ends : (x : List ℕ) → value_at bytes_cmp x new.ends.entries ≡ cond (has names x) found (value_at bytes_cmp x old.ends.entries)) where
  abbrev was : List Fact
  was = facts_of old.posts.entries

  abbrev is : List Fact
  is = facts_of new.posts.entries

  with-fact : (x : List ℕ) → post is x ≡ (if bytes_eq x fact.name then Some fact else post was x)
  with-fact x =
      post-is new.posts.entries x ∙ ap (option_map (λ n. fact_of (x, n))) (ap (value_at bytes_cmp x) posts ∙ value-with fact.name (node_of fact) old.posts.entries x)
      ∙ elim (bytes_eq x fact.name) as (λ b. bytes_eq x fact.name ≡ b → option_map (λ n. fact_of (x, n)) (cond b (Some (node_of fact)) (value_at bytes_cmp x old.posts.entries)) ≡ (if b then Some fact else post was x)) [
        | true ↦ λ h. ap (λ n. Some (fact_of (n, node_of fact))) ((bytes_decides x fact.name).0 h)
        | false ↦ λ _. sym (post-is old.posts.entries x)
      ] refl

  ends-are : (x : List ℕ) → value_at bytes_cmp x new.ends.entries ≡ end is x
  ends-are x = ends x ∙ ap (cond (has names x) found) (kept.ends x) ∙ sym (step.ends fact is refl refl with-fact x)

  -- what isn't among the names is as it was
  else-post : (x : List ℕ) → has names x ≡ false → post was x ≡ post is x
  else-post x h =
      sym (with-fact x ∙ elim (bytes_eq x fact.name) as (λ b. bytes_eq x fact.name ≡ b → (if b then Some fact else post was x) ≡ post was x) [
        | true ↦ λ e. absurd (true≢false (sym step.own ∙ sym (ap (has names) ((bytes_decides x fact.name).0 e)) ∙ h))
        | false ↦ λ _. refl
      ] refl)

  else-end : (x : List ℕ) → has names x ≡ false → end was x ≡ end is x
  else-end x h = sym (step.ends fact is refl refl with-fact x ∙ ap (λ b. if b then found else end was x) h)

  else-place : (x : List ℕ) → has names x ≡ false → place was x ≡ place is x
  else-place x h = place-at was x ∙ (λ i. option_and_then (λ f. place_by (else-end x h i) f) (else-post x h i)) ∙ sym (place-at is x)

  else-row : (x : List ℕ) → has names x ≡ false → threads_row was x ≡ threads_row is x
  else-row x h = λ i. option_and_then (λ f. paired f (else-place x h i)) (else-post x h i)

  pub next-with : (x : List ℕ) → cond (bytes_eq x fact.name) (next fact) (next_of was x) ≡ next_of is x
  next-with x = elim (bytes_eq x fact.name) as (λ b. cond b (next fact) (next_of was x) ≡ option_and_then next (if b then Some fact else post was x)) [ true ↦ refl | false ↦ refl ] ∙ sym (ap (option_and_then next) (with-fact x))

  place-with : (x : List ℕ) → cond (has names x) (place_of (row_in new.posts.entries new.ends.entries x)) (place was x) ≡ place is x
  place-with x =
      elim (has names x) as (λ b. has names x ≡ b → cond b (place_of (row_in new.posts.entries new.ends.entries x)) (place was x) ≡ place is x) [
        | true ↦ λ _. ap place_of (row-is new.posts.entries new.ends.entries ends-are x) ∙ thread-is is x
        | false ↦ λ h. else-place x h
      ] refl

  pub kept-put : AreOf (λ x. cond (bytes_eq x fact.name) (next fact) (next_of was x)) new.followers.entries → IsStrictlySortedBy bytes_cmp (keys_of new.ends.entries)
      → AreOf (λ x. cond (has names x) (place_of (row_in new.posts.entries new.ends.entries x)) (place was x)) new.placed.entries → IsKept new
  kept-put followers ordered placed = record {
    ordered = subst (λ es. IsStrictlySortedBy bytes_cmp (keys_of es)) (sym posts) (sorted-insert_entry bytes_cmp-IsTotalOrder fact.name (node_of fact) old.posts.entries kept.ordered);
    followers = of-alike (λ x. cond (bytes_eq x fact.name) (next fact) (next_of was x)) (next_of is) new.followers.entries next-with followers;
    ends_ordered = ordered;
    ends = ends-are;
    placed = of-alike (λ x. cond (has names x) (place_of (row_in new.posts.entries new.ends.entries x)) (place was x)) (place is) new.placed.entries place-with placed;
  }

  pub changed-put : IsStrictlySortedBy bytes_cmp names
      → ListsChanged (threads_row was) (threads_row is) (differing (row_in new.posts.entries new.ends.entries) (map (noted_in (row_in old.posts.entries old.ends.entries)) names))
  changed-put up =
      let before : row_in old.posts.entries old.ends.entries ≡ threads_row was = λ i x. row-is old.posts.entries old.ends.entries kept.ends x i in
      let after : row_in new.posts.entries new.ends.entries ≡ threads_row is = λ i x. row-is new.posts.entries new.ends.entries ends-are x i in
      subst (λ f. ListsChanged (threads_row was) (threads_row is) (differing f (map (noted_in (row_in old.posts.entries old.ends.entries)) names))) (sym after)
      (subst (λ f. ListsChanged (threads_row was) (threads_row is) (differing (threads_row is) (map (noted_in f) names))) (sym before)
      (lists_changed (threads_row was) (threads_row is) names up else-row))
