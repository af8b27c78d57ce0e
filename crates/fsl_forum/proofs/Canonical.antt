-- The facts determine the rows, so rows of the same facts are as good where they have no less to spare.
use Rattle.std.proofs.Common.{◌≡◌, ℕ, List, [], false, Option, Some, None, option_and_then, refl, sym, ap, subst, ◌∙◌}
use Rattle.std.proofs.Math.Path.{transport}
use Rattle.std.specs.List.Sorted.{IsStrictlySortedBy}
use Rattle.std.specs.Map.{keys_of}
use Rattle.std.proofs.lemmas.Map.Lookups.{exact_bytes}
use Rattle.fsl_order.specs.Names.{bytes_cmp}
use Rattle.fsl_order.specs.TableState.{IsAsBefore}
use Rattle.fsl_order.proofs.Orders.{bytes_cmp-IsTotalOrder}
use Rattle.fsl_table.specs.Exact.{pair_cmp, exact_pair}
use Rattle.fsl_table.specs.declared.key.Pair.{Pair}
use Rattle.fsl_table.specs.Contents.{value_at}
use Rattle.fsl_table.specs.Pairs.{is_name}
use Rattle.fsl_table.proofs.PairOrder.{pair_cmp-IsTotalOrder}
use Rattle.fsl_table.proofs.Facts.{same_facts}
use Rattle.fsl_table.proofs.Finding.{same_found, same_units}
use Rattle.fsl_forum.specs.Held.{AreAsGood, AreOf, IsKept, Nodes, Rows, fact_of, facts_of, held_of, node_of}
use Rattle.fsl_forum.specs.Threads.{next_of, end, place}

same_nodes : (es fs : Nodes) → facts_of es ≡ facts_of fs → es ≡ fs
same_nodes es fs h = same_facts fact_of (λ f. f.name) (λ e. refl) node_of (λ e. refl) es fs h

same_of : (first other : List ℕ → Option (List ℕ)) (es fs : List (Pair × Unit {0})) → first ≡ other → AreOf first es → AreOf other fs → es ≡ fs
same_of first other es fs e k l =
    same_found pair_cmp pair_cmp-IsTotalOrder exact_pair es fs k.ordered l.ordered
    (λ q. same_units (value_at pair_cmp q es) (value_at pair_cmp q fs) (k.pairs q ∙ ap (λ f. is_name (option_and_then f q.second) q.first) e ∙ sym (l.pairs q)))

same_ends : (r s : Rows) → IsKept r → IsKept s → r.posts.entries ≡ s.posts.entries → r.ends.entries ≡ s.ends.entries
same_ends r s k l e =
    same_found bytes_cmp bytes_cmp-IsTotalOrder exact_bytes r.ends.entries s.ends.entries k.ends_ordered l.ends_ordered
    (λ q. k.ends q ∙ ap (λ es. end (facts_of es) q) e ∙ sym (l.ends q))

kept_as : (r s : Rows) → s.posts.entries ≡ r.posts.entries → s.followers.entries ≡ r.followers.entries → s.ends.entries ≡ r.ends.entries → s.placed.entries ≡ r.placed.entries → IsKept r → IsKept s
kept_as r s p f e w k = record {
  ordered = subst (λ es. IsStrictlySortedBy bytes_cmp (keys_of es)) (sym p) k.ordered;
  followers = transport (λ i. AreOf (next_of (facts_of (sym p i))) (sym f i)) k.followers;
  ends_ordered = subst (λ es. IsStrictlySortedBy bytes_cmp (keys_of es)) (sym e) k.ends_ordered;
  ends = λ x. ap (value_at bytes_cmp x) e ∙ k.ends x ∙ ap (λ es. end (facts_of es) x) (sym p);
  placed = transport (λ i. AreOf (place (facts_of (sym p i))) (sym w i)) k.placed;
}

-- rows of the same facts, with no less to spare, are as good
pub good_as : (before now : Rows) → IsKept before → IsKept now → IsAsBefore (held_of before) (held_of now) → AreAsGood before now
good_as before now kb kn same =
    let pe : now.posts.entries ≡ before.posts.entries = same_nodes now.posts.entries before.posts.entries same.facts in
    record {
      posts = record { entries = pe; spare = same.spare.0 };
      followers = record {
        entries = same_of (next_of (facts_of now.posts.entries)) (next_of (facts_of before.posts.entries)) now.followers.entries before.followers.entries (ap (λ es. next_of (facts_of es)) pe) kn.followers kb.followers;
        spare = same.spare.1.0;
      };
      ends = record { entries = same_ends now before kn kb pe; spare = same.spare.1.1.0 };
      placed = record {
        entries = same_of (place (facts_of now.posts.entries)) (place (facts_of before.posts.entries)) now.placed.entries before.placed.entries (ap (λ es. place (facts_of es)) pe) kn.placed kb.placed;
        spare = same.spare.1.1.1.0;
      };
    }

-- and rows that are as good hold the same
pub kept_good : (before now : Rows) → AreAsGood before now → IsKept before → IsKept now
kept_good before now g k = kept_as before now g.posts.entries g.followers.entries g.ends.entries g.placed.entries k

pub as_good : (before now : Rows) → AreAsGood before now → IsAsBefore (held_of before) (held_of now)
as_good before now g = record { facts = ap facts_of g.posts.entries; spare = (g.posts.spare, (g.followers.spare, (g.ends.spare, (g.placed.spare, tt)))) }

pub of-none : (first : List ℕ → Option (List ℕ)) → ((x : List ℕ) → first x ≡ None) → AreOf first []
unfolding IsStrictlySortedBy
of-none first none = record {
  ordered = tt;
  pairs = λ k. by k k.second;
}
  where
    by : (k : Pair) (s : Option (List ℕ)) → false ≡ is_name (option_and_then first s) k.first
    by k None = refl
    by k (Some x) = sym (ap (λ o. is_name o k.first) (none x))

pub kept_none : (r : Rows) → r.posts.entries ≡ [] → r.followers.entries ≡ [] → r.ends.entries ≡ [] → r.placed.entries ≡ [] → IsKept r
unfolding IsStrictlySortedBy
kept_none r p f e w =
    kept_as (record { posts = record { entries = []; spare = 0 }; followers = record { entries = []; spare = 0 }; ends = record { entries = []; spare = 0 }; placed = record { entries = []; spare = 0 } }) r p f e w
    (record { ordered = tt; followers = of-none (next_of []) (λ x. refl); ends_ordered = tt; ends = λ x. refl; placed = of-none (place []) (λ x. refl) })
