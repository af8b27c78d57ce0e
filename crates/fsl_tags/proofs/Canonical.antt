-- The facts determine the rows, so rows of the same facts are as good where they have no less to spare.
use Rattle.std.proofs.Math.Path.{transport}
use Rattle.std.proofs.Common.{◌≡◌, ℕ, List, [], ◌∷◌, option_and_then, map, refl, sym, ap, subst, ◌∙◌}
use Rattle.std.specs.List.Sorted.{IsStrictlySortedBy}
use Rattle.std.specs.Map.{keys_of}
use Rattle.fsl_table.proofs.Finding.{same_found, same_units}
use Rattle.fsl_order.specs.TableState.{IsAsBefore}
use Rattle.fsl_order.specs.Names.{bytes_cmp}
use Rattle.fsl_order.proofs.Orders.{bytes_cmp-IsTotalOrder, bytes_cmp-IsAntisymmetric}
use Rattle.fsl_table.specs.Exact.{pair_cmp, exact_pair}
use Rattle.fsl_table.specs.Contents.{value_at}
use Rattle.fsl_tags.specs.declared.Fact.{Fact}
use Rattle.fsl_tags.specs.declared.Assertion.{Assertion}
use Rattle.fsl_tags.specs.declared.node.Node.{Node}
use Rattle.fsl_tags.specs.Tags.{direct, tags_row, AreTagFacts}
use Rattle.fsl_table.specs.Pairs.{is_name}
use Rattle.fsl_tags.specs.Laid.{row_in, filled, parent_in, AreFull, AreRight}
use Rattle.fsl_tags.specs.Held.{AreAsGood, IsKept, Rows, held_of, facts_of}
use Rattle.fsl_table.proofs.PairOrder.{pair_cmp-IsTotalOrder}
use Rattle.fsl_tags.proofs.RowsOf.{of_tag, same_row}
use Rattle.fsl_tags.proofs.Effective.{kept-row}

abbrev pub entry_of : Fact → List ℕ × Node
entry_of f = (f.name, record { checkin = f.checkin; parent = f.parent; tags = f.tags })

entries-facts : (es : List (List ℕ × Node)) → map entry_of (facts_of es) ≡ es
entries-facts [] = refl
entries-facts (e ∷ es) = ap (λ l. e ∷ l) (entries-facts es)

pub same_facts : (es fs : List (List ℕ × Node)) → facts_of es ≡ facts_of fs → es ≡ fs
same_facts es fs h = sym (entries-facts es) ∙ ap (map entry_of) h ∙ entries-facts fs

pub same_rows_in : (es fs : List (List ℕ × List Assertion)) → AreFull es → AreFull fs → ((x : List ℕ) → row_in es x ≡ row_in fs x) → es ≡ fs
same_rows_in es fs a b same =
    same_found bytes_cmp bytes_cmp-IsTotalOrder bytes_cmp-IsAntisymmetric es fs a.ordered b.ordered
    (λ q. a.full q ∙ ap filled (same q) ∙ sym (b.full q))

module _ (r s : Rows) (k : IsKept r) (l : IsKept s) (e : r.facts.entries ≡ s.facts.entries) where
  pub same_children : r.children.entries ≡ s.children.entries
  same_children =
      same_found pair_cmp pair_cmp-IsTotalOrder exact_pair r.children.entries s.children.entries k.right.laid.ordered l.right.laid.ordered
      (λ q. same_units (value_at pair_cmp q r.children.entries) (value_at pair_cmp q s.children.entries)
      (k.right.laid.pairs q ∙ ap (λ es. is_name (option_and_then (parent_in es) q.second) q.first) e ∙ sym (l.right.laid.pairs q)))

  pub same_own : r.own.entries ≡ s.own.entries
  same_own =
      same_rows_in r.own.entries s.own.entries k.right.own_full l.right.own_full
      (λ x. same_row (row_in r.own.entries x) (row_in s.own.entries x) (k.right.laid.rise x) (l.right.laid.rise x)
      (λ t. k.newest x t ∙ ap (λ es. direct (facts_of es) x t) e ∙ sym (l.newest x t)))

  pub same_effective : r.rows.entries ≡ s.rows.entries
  same_effective = same_rows_in r.rows.entries s.rows.entries k.right.full l.right.full (λ x. kept-row r k x ∙ (λ i. tags_row (facts_of (e i)) x) ∙ sym (kept-row s l x))

kept_as : (r s : Rows) → s.facts.entries ≡ r.facts.entries → s.children.entries ≡ r.children.entries → s.own.entries ≡ r.own.entries → s.rows.entries ≡ r.rows.entries → IsKept r → IsKept s
kept_as r s f c o w k = record {
  ordered = subst (λ es. IsStrictlySortedBy bytes_cmp (keys_of es)) (sym f) k.ordered;
  fit = subst (λ es. AreTagFacts (facts_of es)) (sym f) k.fit;
  newest = λ x t. ap (λ es. of_tag (row_in es x) t) o ∙ k.newest x t ∙ ap (λ es. direct (facts_of es) x t) (sym f);
  right = transport (λ i. AreRight (sym f i) (sym c i) (sym o i) (sym w i)) k.right;
}

-- rows of the same facts, with no less to spare, are as good
pub good_as : (before now : Rows) → IsKept before → IsKept now → IsAsBefore (held_of before) (held_of now) → AreAsGood before now
good_as before now kb kn same =
    let fe : now.facts.entries ≡ before.facts.entries = same_facts now.facts.entries before.facts.entries same.facts in
    record {
      facts = record { entries = fe; spare = same.spare.0 };
      children = record { entries = same_children now before kn kb fe; spare = same.spare.1.0 };
      own = record { entries = same_own now before kn kb fe; spare = same.spare.1.1.0 };
      rows = record { entries = same_effective now before kn kb fe; spare = same.spare.1.1.1.0 };
    }

-- and rows that are as good hold the same
pub kept_good : (before now : Rows) → AreAsGood before now → IsKept before → IsKept now
kept_good before now g k = kept_as before now g.facts.entries g.children.entries g.own.entries g.rows.entries k

pub as_good : (before now : Rows) → AreAsGood before now → IsAsBefore (held_of before) (held_of now)
as_good before now g = record { facts = ap facts_of g.facts.entries; spare = (g.facts.spare, (g.children.spare, (g.own.spare, (g.rows.spare, tt)))) }
