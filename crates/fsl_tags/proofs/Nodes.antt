-- What the tables are once a fact was put with its parent, and its pair with it.
use Rattle.std.specs.Prelude.{◌≡◌, ◌⊎◌, ℕ, ◌+◌, ◌≤◌, List, [], length, true, false, ◌&&◌, ◌||◌, not, cond, Option, None, is_some, option_and_then}
use Rattle.std.proofs.Common.{refl, sym, ap, ◌∙◌, subst}
use Rattle.std.specs.List.{AllByRecursion}
use Rattle.std.specs.List.Sorted.{IsStrictlySortedBy}
use Rattle.std.specs.Map.{keys_of}
use Rattle.std.specs.Str.{bytes_eq}
use Rattle.std.specs.Cmp.Lexicographic.{bytes_decides}
use Rattle.fsl_order.specs.Names.{bytes_cmp}
use Rattle.fsl_table.specs.Exact.{pair_cmp}
use Rattle.fsl_table.specs.declared.key.Pair.{Pair}
use Rattle.fsl_table.specs.Contents.{value_at, with_entry}
use Rattle.fsl_table.specs.Pairs.{is_name, seconds}
use Rattle.fsl_table.proofs.Seconds.{seconds_sorted}
use Rattle.fsl_tags.specs.declared.Assertion.{Assertion}
use Rattle.fsl_tags.specs.declared.node.Node.{Node}
use Rattle.fsl_tags.specs.Climbed.{row_up}
use Rattle.fsl_tags.specs.Joined.{joined}
use Rattle.fsl_tags.specs.Laid.{row_in, parent_in, settled, AreFull, AreLaid, AreRight}
use Rattle.fsl_tags.proofs.RowsOf.{of_tag}
use Rattle.fsl_tags.proofs.Limits.{low-itself}
use Rattle.fsl_tags.proofs.Linked.{parent-with, longer-with, relinked}
use Rattle.fsl_tags.proofs.Renewal.{renewal-root, renewal-even, renewal-all}
use Rattle.fsl_tags.proofs.Settled.{only_self, one_self}

module _ (name : List ℕ) (node : Node) (facts then : List (List ℕ × Node)) (children : List (Pair × Unit {0})) (own rows : List (List ℕ × List Assertion)) (was : AreRight facts children own rows)
    (put : then ≡ with_entry bytes_cmp name node facts) where
  parent : (x : List ℕ) → parent_in then x ≡ cond (bytes_eq x name) node.parent (parent_in facts x)
  parent x = ap (λ es. parent_in es x) put ∙ parent-with name node facts x

  parent_else : (x : List ℕ) → bytes_eq x name ≡ false → parent_in facts x ≡ parent_in then x
  parent_else x h = sym (parent x ∙ ap (λ b. cond b node.parent (parent_in facts x)) h)

  parent_here : parent_in then name ≡ node.parent
  parent_here = parent name ∙ ap (λ b. cond b node.parent (parent_in facts name)) ((bytes_decides name name).1 refl)

  long : length then ≡ (longer-with name node facts).0 + length facts
  long = ap length put ∙ (longer-with name node facts).1

  -- the old pair was taken out, and the new one put
  pub put_laid : (mid links : List (Pair × Unit {0})) (old up : Option (List ℕ)) → old ≡ parent_in facts name → up ≡ node.parent → IsStrictlySortedBy pair_cmp (keys_of links)
      → ((k : Pair) → is_some (value_at pair_cmp k mid) ≡ (not (is_name k.second name && is_name old k.first) && is_some (value_at pair_cmp k children)))
      → ((k : Pair) → is_some (value_at pair_cmp k links) ≡ ((is_name k.second name && is_name up k.first) || is_some (value_at pair_cmp k mid)))
      → AreLaid then links own
  put_laid mid links old up old_is up_is ordered gone come = record {
    ordered = ordered;
    pairs = λ k.
        relinked facts name node children mid links was.laid.pairs
        (λ k. gone k ∙ ap (λ o. not (is_name k.second name && is_name o k.first) && is_some (value_at pair_cmp k children)) old_is)
        (λ k. come k ∙ ap (λ o. (is_name k.second name && is_name o k.first) || is_some (value_at pair_cmp k mid)) up_is) k
        ∙ ap (λ es. is_name (option_and_then (parent_in es) k.second) k.first) (sym put);
    rise = was.laid.rise;
  }

  pub put_root : (above : Option (List ℕ)) → above ≡ parent_in then name → (node.parent ≡ None) ⊎ ((parent_in facts name ≡ None) ⊎ (parent_in facts name ≡ node.parent))
      → joined (row_up (row_in rows) above) (row_in own name) ≡ settled then own name
  put_root above is before =
      ap (λ o. joined (row_up (row_in rows) o) (row_in own name)) is
      ∙ renewal-root facts then own own rows name was.laid.rise was.laid.rise was.right parent_else (λ x h. refl) (longer-with name node facts).0 long
      (subst (λ o. (o ≡ None) ⊎ ((parent_in facts name ≡ None) ⊎ (parent_in facts name ≡ o))) (sym parent_here) before) (λ t. low-itself (of_tag (row_in own name) t))

  pub put_even : (x : List ℕ) → bytes_eq x name ≡ false → row_in rows x ≡ joined (row_up (row_in rows) (parent_in then x)) (row_in own x)
  put_even = renewal-even facts then own own rows name was.laid.rise was.laid.rise was.right parent_else (λ x h. refl) (longer-with name node facts).0 long

  pub put_right : (links : List (Pair × Unit {0})) (now : List (List ℕ × List Assertion)) → AreLaid then links own → AreFull now
      → ((x : List ℕ) → (row_in now x ≡ row_in rows x) ⊎ (row_in now x ≡ settled then own x)) → row_in now name ≡ settled then own name
      → ((x : List ℕ) → bytes_eq x name ≡ false → row_in now x ≡ joined (row_up (row_in now) (parent_in then x)) (row_in own x)) → AreRight then links own now
  put_right links now laid full each root even = record {
    laid = laid;
    own_full = was.own_full;
    full = full;
    right = renewal-all facts then own own rows name was.laid.rise was.laid.rise was.right parent_else (λ x h. refl) (longer-with name node facts).0 long now each root even;
  }

  -- where it had no children, it is its only child at most
  pub put_lone : (links : List (Pair × Unit {0})) → AreLaid then links own → seconds name children ≡ [] → AllByRecursion (λ x. bytes_eq x name ≡ true) (seconds name links)
  put_lone links laid free = only_self facts then children links own name was.laid laid parent_else free

  pub put_one : (links : List (Pair × Unit {0})) → AreLaid then links own → seconds name children ≡ [] → length (seconds name links) ≤ 1
  put_one links laid free = one_self name (seconds name links) (seconds_sorted name links laid.ordered) (put_lone links laid free)
