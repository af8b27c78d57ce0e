-- The facts determine the rows, so rows of the same facts are as good where they have no less to spare.
use Rattle.std.proofs.Common.{◌≡◌, ℕ, List, [], false, Option, Some, None, is_some, option_and_then, refl, sym, ap, subst, ◌∙◌}
use Rattle.std.specs.List.Sorted.{IsStrictlySortedBy}
use Rattle.std.specs.Map.{keys_of}
use Rattle.std.proofs.lemmas.Map.Lookups.{exact_bytes}
use Rattle.fsl_order.specs.Names.{bytes_cmp}
use Rattle.fsl_order.specs.TableState.{IsAsBefore}
use Rattle.fsl_order.proofs.Orders.{bytes_cmp-IsTotalOrder}
use Rattle.fsl_table.specs.Contents.{value_at}
use Rattle.fsl_table.proofs.Facts.{same_facts}
use Rattle.fsl_table.proofs.Finding.{same_found, same_units}
use Rattle.fsl_leaves.specs.declared.line.Line.{Line}
use Rattle.fsl_leaves.specs.declared.Fact.{Fact}
use Rattle.fsl_leaves.specs.Keys.{kin_cmp}
use Rattle.fsl_leaves.specs.Kept.{AreAsGood, IsKept, Lines, Rows, continues_in, fact_of, facts_of, held_of, leaf}
use Rattle.fsl_leaves.proofs.Kinship.{kin_cmp-IsTotalOrder, kin_cmp-exact}

line_of : Fact → Line
line_of f = record { parents = f.parents; branch = f.branch }

same_lines : (es fs : Lines) → facts_of es ≡ facts_of fs → es ≡ fs
unfolding line_of
same_lines es fs h = same_facts fact_of (λ f. f.name) (λ e. refl) line_of (λ e. refl) es fs h

same_pairs : (r s : Rows) → IsKept r → IsKept s → r.facts.entries ≡ s.facts.entries → r.children.entries ≡ s.children.entries
same_pairs r s k l e =
    same_found kin_cmp kin_cmp-IsTotalOrder kin_cmp-exact r.children.entries s.children.entries k.pairs_ordered l.pairs_ordered
    (λ q. same_units (value_at kin_cmp q r.children.entries) (value_at kin_cmp q s.children.entries)
    (k.pairs q ∙ ap (λ es. continues_in (option_and_then (λ c. value_at bytes_cmp c es) q.second) q.first.parent q.first.branch) e ∙ sym (l.pairs q)))

same_leaves : (r s : Rows) → IsKept r → IsKept s → r.facts.entries ≡ s.facts.entries → r.leaves.entries ≡ s.leaves.entries
same_leaves r s k l e =
    same_found bytes_cmp bytes_cmp-IsTotalOrder exact_bytes r.leaves.entries s.leaves.entries k.leaves_ordered l.leaves_ordered
    (λ q. same_units (value_at bytes_cmp q r.leaves.entries) (value_at bytes_cmp q s.leaves.entries) (k.leaves q ∙ ap (λ es. leaf es q) e ∙ sym (l.leaves q)))

kept_as : (r s : Rows) → s.facts.entries ≡ r.facts.entries → s.children.entries ≡ r.children.entries → s.leaves.entries ≡ r.leaves.entries → IsKept r → IsKept s
kept_as r s p q t k = record {
  ordered = subst (λ es. IsStrictlySortedBy bytes_cmp (keys_of es)) (sym p) k.ordered;
  pairs_ordered = subst (λ es. IsStrictlySortedBy kin_cmp (keys_of es)) (sym q) k.pairs_ordered;
  leaves_ordered = subst (λ es. IsStrictlySortedBy bytes_cmp (keys_of es)) (sym t) k.leaves_ordered;
  pairs = λ key. ap (λ es. is_some (value_at kin_cmp key es)) q ∙ k.pairs key ∙ ap (λ es. continues_in (option_and_then (λ c. value_at bytes_cmp c es) key.second) key.first.parent key.first.branch) (sym p);
  leaves = λ name. ap (λ es. is_some (value_at bytes_cmp name es)) t ∙ k.leaves name ∙ ap (λ es. leaf es name) (sym p);
}

-- rows of the same facts, with no less to spare, are as good
pub good_as : (before now : Rows) → IsKept before → IsKept now → IsAsBefore (held_of before) (held_of now) → AreAsGood before now
good_as before now kb kn same =
    let fe : now.facts.entries ≡ before.facts.entries = same_lines now.facts.entries before.facts.entries same.facts in
    record {
      facts = record { entries = fe; spare = same.spare.0 };
      children = record { entries = same_pairs now before kn kb fe; spare = same.spare.1.0 };
      leaves = record { entries = same_leaves now before kn kb fe; spare = same.spare.1.1.0 };
    }

-- and rows that are as good hold the same
pub kept_good : (before now : Rows) → AreAsGood before now → IsKept before → IsKept now
kept_good before now g k = kept_as before now g.facts.entries g.children.entries g.leaves.entries k

pub as_good : (before now : Rows) → AreAsGood before now → IsAsBefore (held_of before) (held_of now)
as_good before now g = record { facts = ap facts_of g.facts.entries; spare = (g.facts.spare, (g.children.spare, (g.leaves.spare, tt))) }

pub kept_none : (r : Rows) → r.facts.entries ≡ [] → r.children.entries ≡ [] → r.leaves.entries ≡ [] → IsKept r
unfolding IsStrictlySortedBy
kept_none r p q t =
    kept_as (record { facts = record { entries = []; spare = 0 }; children = record { entries = []; spare = 0 }; leaves = record { entries = []; spare = 0 } }) r p q t
    (record { ordered = tt; pairs_ordered = tt; leaves_ordered = tt; pairs = λ k. none k.first.parent k.first.branch k.second; leaves = λ q. refl })
  where
    none : (p b : List ℕ) (s : Option (List ℕ)) → false ≡ continues_in (option_and_then (λ c. value_at {X = Line} bytes_cmp c []) s) p b
    none p b None = refl
    none p b (Some c) = refl
