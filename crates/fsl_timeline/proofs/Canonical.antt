-- The facts determine the rows, so rows of the same facts are as good where they have no less to spare.
use Rattle.std.proofs.Common.{◌≡◌, [], is_some, refl, sym, ap, subst, ◌∙◌}
use Rattle.std.specs.List.Sorted.{IsStrictlySortedBy}
use Rattle.std.specs.Map.{keys_of}
use Rattle.fsl_order.specs.Names.{bytes_cmp, latest_first}
use Rattle.fsl_order.specs.TableState.{IsAsBefore}
use Rattle.fsl_order.proofs.Orders.{latest_first-IsTotalOrder, latest_first-IsAntisymmetric}
use Rattle.fsl_table.specs.Contents.{value_at}
use Rattle.fsl_table.proofs.Facts.{same_facts}
use Rattle.fsl_table.proofs.Finding.{same_found, same_units}
use Rattle.fsl_timeline.specs.Kept.{AreAsGood, IsKept, Lines, Rows, entry_of, held_of, is_time, row_of, rows_of}

same_lines : (es fs : Lines) → rows_of es ≡ rows_of fs → es ≡ fs
same_lines es fs h = same_facts row_of (λ r. r.name) (λ e. refl) entry_of (λ e. refl) es fs h

same_places : (r s : Rows) → IsKept r → IsKept s → r.rows.entries ≡ s.rows.entries → r.places.entries ≡ s.places.entries
same_places r s k l e =
    same_found latest_first latest_first-IsTotalOrder latest_first-IsAntisymmetric r.places.entries s.places.entries k.places_ordered l.places_ordered
    (λ q. same_units (value_at latest_first q r.places.entries) (value_at latest_first q s.places.entries)
    (k.places q ∙ ap (λ es. is_time (value_at bytes_cmp q.1 es) q.0) e ∙ sym (l.places q)))

kept_as : (r s : Rows) → s.rows.entries ≡ r.rows.entries → s.places.entries ≡ r.places.entries → IsKept r → IsKept s
kept_as r s p q k = record {
  ordered = subst (λ es. IsStrictlySortedBy bytes_cmp (keys_of es)) (sym p) k.ordered;
  places_ordered = subst (λ es. IsStrictlySortedBy latest_first (keys_of es)) (sym q) k.places_ordered;
  places = λ key. ap (λ es. is_some (value_at latest_first key es)) q ∙ k.places key ∙ ap (λ es. is_time (value_at bytes_cmp key.1 es) key.0) (sym p);
}

-- rows of the same facts, with no less to spare, are as good
pub good_as : (before now : Rows) → IsKept before → IsKept now → IsAsBefore (held_of before) (held_of now) → AreAsGood before now
good_as before now kb kn same =
    let re : now.rows.entries ≡ before.rows.entries = same_lines now.rows.entries before.rows.entries same.facts in
    record {
      rows = record { entries = re; spare = same.spare.0 };
      places = record { entries = same_places now before kn kb re; spare = same.spare.1.0 };
    }

-- and rows that are as good hold the same
pub kept_good : (before now : Rows) → AreAsGood before now → IsKept before → IsKept now
kept_good before now g k = kept_as before now g.rows.entries g.places.entries k

pub as_good : (before now : Rows) → AreAsGood before now → IsAsBefore (held_of before) (held_of now)
as_good before now g = record { facts = ap rows_of g.rows.entries; spare = (g.rows.spare, (g.places.spare, tt)) }

pub kept_none : (r : Rows) → r.rows.entries ≡ [] → r.places.entries ≡ [] → IsKept r
unfolding IsStrictlySortedBy
kept_none r p q = kept_as (record { rows = record { entries = []; spare = 0 }; places = record { entries = []; spare = 0 } }) r p q (record { ordered = tt; places_ordered = tt; places = λ k. refl })
