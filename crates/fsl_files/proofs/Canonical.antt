-- The facts determine the rows, so rows of the same facts are as good where they have no less to spare.
use Rattle.std.proofs.Common.{◌≡◌, ℕ, List, [], false, Option, Some, None, option_and_then, refl, sym, ap, subst, ◌∙◌}
use Rattle.std.proofs.Math.Path.{transport}
use Rattle.std.specs.List.Sorted.{IsStrictlySortedBy}
use Rattle.std.specs.Map.{keys_of}
use Rattle.fsl_order.specs.Names.{bytes_cmp}
use Rattle.fsl_order.specs.TableState.{IsAsBefore}
use Rattle.fsl_table.specs.Exact.{pair_cmp, exact_pair}
use Rattle.fsl_table.specs.declared.key.Pair.{Pair}
use Rattle.fsl_table.specs.Contents.{value_at}
use Rattle.fsl_table.specs.Pairs.{is_name}
use Rattle.fsl_table.proofs.PairOrder.{pair_cmp-IsTotalOrder}
use Rattle.fsl_table.proofs.Facts.{same_facts}
use Rattle.fsl_table.proofs.Finding.{same_found, same_units}
use Rattle.fsl_files.specs.Kept.{AreAsGood, AreFit, AreOf, IsKept, Lines, Pairs, Rows, baseline_at, entry_of, fact_of, facts_of, held_of, parent_at}

same_lines : (es fs : Lines) → facts_of es ≡ facts_of fs → es ≡ fs
same_lines es fs h = same_facts fact_of (λ f. f.name) (λ e. refl) entry_of (λ e. refl) es fs h

same_of : (first other : List ℕ → Option (List ℕ)) (es fs : Pairs) → first ≡ other → AreOf first es → AreOf other fs → es ≡ fs
same_of first other es fs e k l =
    same_found pair_cmp pair_cmp-IsTotalOrder exact_pair es fs k.ordered l.ordered
    (λ q. same_units (value_at pair_cmp q es) (value_at pair_cmp q fs) (k.pairs q ∙ ap (λ f. is_name (option_and_then f q.second) q.first) e ∙ sym (l.pairs q)))

kept_as : (r s : Rows) → s.facts.entries ≡ r.facts.entries → s.deltas.entries ≡ r.deltas.entries → s.children.entries ≡ r.children.entries → IsKept r → IsKept s
kept_as r s f d c k = record {
  ordered = subst (λ es. IsStrictlySortedBy bytes_cmp (keys_of es)) (sym f) k.ordered;
  fit = subst AreFit (sym f) k.fit;
  deltas = transport (λ i. AreOf (baseline_at (sym f i)) (sym d i)) k.deltas;
  children = transport (λ i. AreOf (parent_at (sym f i)) (sym c i)) k.children;
}

-- rows of the same facts, with no less to spare, are as good
pub good_as : (before now : Rows) → IsKept before → IsKept now → IsAsBefore (held_of before) (held_of now) → AreAsGood before now
good_as before now kb kn same =
    let fe : now.facts.entries ≡ before.facts.entries = same_lines now.facts.entries before.facts.entries same.facts in
    record {
      facts = record { entries = fe; spare = same.spare.0 };
      deltas = record {
        entries = same_of (baseline_at now.facts.entries) (baseline_at before.facts.entries) now.deltas.entries before.deltas.entries (ap baseline_at fe) kn.deltas kb.deltas;
        spare = same.spare.1.0;
      };
      children = record {
        entries = same_of (parent_at now.facts.entries) (parent_at before.facts.entries) now.children.entries before.children.entries (ap parent_at fe) kn.children kb.children;
        spare = same.spare.1.1.0;
      };
    }

-- and rows that are as good hold the same
pub kept_good : (before now : Rows) → AreAsGood before now → IsKept before → IsKept now
kept_good before now g k = kept_as before now g.facts.entries g.deltas.entries g.children.entries k

pub as_good : (before now : Rows) → AreAsGood before now → IsAsBefore (held_of before) (held_of now)
as_good before now g = record { facts = ap facts_of g.facts.entries; spare = (g.facts.spare, (g.deltas.spare, (g.children.spare, tt))) }

of-none : (first : List ℕ → Option (List ℕ)) → ((x : List ℕ) → first x ≡ None) → AreOf first []
unfolding IsStrictlySortedBy
of-none first none = record {
  ordered = tt;
  pairs = λ k. by k k.second;
}
  where
    by : (k : Pair) (s : Option (List ℕ)) → false ≡ is_name (option_and_then first s) k.first
    by k None = refl
    by k (Some x) = sym (ap (λ o. is_name o k.first) (none x))

pub kept_none : (r : Rows) → r.facts.entries ≡ [] → r.deltas.entries ≡ [] → r.children.entries ≡ [] → IsKept r
unfolding IsStrictlySortedBy
kept_none r f d c =
    kept_as (record { facts = record { entries = []; spare = 0 }; deltas = record { entries = []; spare = 0 }; children = record { entries = []; spare = 0 } }) r f d c
    (record { ordered = tt; fit = λ q. tt; deltas = of-none (baseline_at []) (λ x. refl); children = of-none (parent_at []) (λ x. refl) })
