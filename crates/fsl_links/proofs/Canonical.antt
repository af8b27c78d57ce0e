-- The facts determine the rows, so rows of the same facts are as good where they have no less to spare.
use Rattle.std.proofs.Common.{◌≡◌, ℕ, List, [], false, Option, Some, None, is_some, option_and_then, refl, sym, ap, subst, ◌∙◌}
use Rattle.std.specs.List.Sorted.{IsStrictlySortedBy}
use Rattle.std.specs.Map.{keys_of}
use Rattle.fsl_order.specs.Names.{bytes_cmp}
use Rattle.fsl_table.specs.Exact.{pair_cmp, exact_pair}
use Rattle.fsl_table.specs.Contents.{value_at}
use Rattle.fsl_order.specs.TableState.{IsAsBefore}
use Rattle.fsl_table.proofs.Facts.{same_facts}
use Rattle.fsl_table.proofs.Finding.{same_found, same_units}
use Rattle.fsl_links.specs.Kept.{AreAsGood, IsKept, Rows, fact_of, facts_of, held_of, lists}
use Rattle.fsl_table.proofs.PairOrder.{pair_cmp-IsTotalOrder}

pub same_entries : (es fs : List (List ℕ × List (List ℕ))) → facts_of es ≡ facts_of fs → es ≡ fs
same_entries es fs h = same_facts fact_of (λ f. f.name) (λ e. refl) (λ f. f.parents) (λ e. refl) es fs h

pub same_pairs : (r s : Rows) → IsKept r → IsKept s → r.facts.entries ≡ s.facts.entries → r.children.entries ≡ s.children.entries
same_pairs r s k l e =
    same_found pair_cmp pair_cmp-IsTotalOrder exact_pair r.children.entries s.children.entries k.pairs_ordered l.pairs_ordered
    (λ q. same_units (value_at pair_cmp q r.children.entries) (value_at pair_cmp q s.children.entries)
    (k.pairs q ∙ ap (λ es. lists (option_and_then (λ c. value_at bytes_cmp c es) q.second) q.first) e ∙ sym (l.pairs q)))

kept_as : (r s : Rows) → s.facts.entries ≡ r.facts.entries → s.children.entries ≡ r.children.entries → IsKept r → IsKept s
kept_as r s p q k = record {
  ordered = subst (λ es. IsStrictlySortedBy bytes_cmp (keys_of es)) (sym p) k.ordered;
  pairs_ordered = subst (λ es. IsStrictlySortedBy pair_cmp (keys_of es)) (sym q) k.pairs_ordered;
  pairs = λ key. ap (λ es. is_some (value_at pair_cmp key es)) q ∙ k.pairs key ∙ ap (λ es. lists (option_and_then (λ c. value_at bytes_cmp c es) key.second) key.first) (sym p);
}

-- rows of the same facts, with no less to spare, are as good
pub good_as : (before now : Rows) → IsKept before → IsKept now → IsAsBefore (held_of before) (held_of now) → AreAsGood before now
good_as before now kb kn same =
    let fe : now.facts.entries ≡ before.facts.entries = same_entries now.facts.entries before.facts.entries same.facts in
    record {
      facts = record { entries = fe; spare = same.spare.0 };
      children = record { entries = same_pairs now before kn kb fe; spare = same.spare.1.0 };
    }

-- and rows that are as good hold the same
pub kept_good : (before now : Rows) → AreAsGood before now → IsKept before → IsKept now
kept_good before now g k = kept_as before now g.facts.entries g.children.entries k

pub as_good : (before now : Rows) → AreAsGood before now → IsAsBefore (held_of before) (held_of now)
as_good before now g = record { facts = ap facts_of g.facts.entries; spare = (g.facts.spare, (g.children.spare, tt)) }

pub kept_none : (r : Rows) → r.facts.entries ≡ [] → r.children.entries ≡ [] → IsKept r
unfolding IsStrictlySortedBy
kept_none r p q =
    kept_as (record { facts = record { entries = []; spare = 0 }; children = record { entries = []; spare = 0 } }) r p q
    (record { ordered = tt; pairs_ordered = tt; pairs = λ k. none k.first k.second })
  where
    none : (p : List ℕ) (s : Option (List ℕ)) → false ≡ lists (option_and_then (λ c. value_at {X = List (List ℕ)} bytes_cmp c []) s) p
    none p None = refl
    none p (Some c) = refl
