-- Threads as rows of a timeline of their own.
use Rattle.std.proofs.Common.{◌≡◌, ℕ, List, [], Option, Some, None, map, sym, subst}
use Rattle.std.specs.Prelude.{filter_map, option_map}
use Rattle.std.specs.List.{IsDistinct}
use Rattle.std.specs.List.Sorted.{IsStrictlySortedBy}
use Rattle.std.specs.Ordering.{eq_by_cmp}
use Rattle.std.specs.Cmp.Lexicographic.{texts_ties}
use Rattle.std.specs.Str.{bytes_eq}
use Rattle.std.proofs.lemmas.Map.Keys.{IsDistinct-from_sorted}
use Rattle.fsl_order.specs.Names.{bytes_cmp, latest_first}
use Rattle.fsl_order.specs.Rows.{AreDistinct, by_name}
use Rattle.fsl_order.proofs.Gathered.{distinct-given}
use Rattle.fsl_order.proofs.MovedLemmas.{IsPermutation-by_name}
use Rattle.fsl_order.proofs.Orders.{latest_first-IsAntisymmetric, latest_first-IsTotalOrder}
use Rattle.fsl_order.proofs.Places.{distinct-places, latest-other}
use Rattle.fsl_order.proofs.RowLemmas.{in_order-permutation}
use Rattle.fsl_order.proofs.SortedLemmas.{same_names}
use Rattle.fsl_forum.specs.declared.Fact as posts_of
use Rattle.fsl_forum.specs.declared.Post.{Post}
use Rattle.fsl_forum.specs.Threads.{thread}
use Rattle.fsl_timeline.specs.declared.Row.{Row}
use Rattle.fsl_timeline.specs.declared.RowKind.TheVariants as row
use Rattle.fsl_timeline.specs.Timeline.{timeline}
use Rattle.fsl_query.specs.Listings.{last, thread_row, thread_title}

distinct_names : (names : List (List ℕ)) → IsStrictlySortedBy bytes_cmp names → AreDistinct names
distinct_names names rise =
    let ties : eq_by_cmp bytes_cmp ≡ bytes_eq = λ i x y. sym (texts_ties x y) i in
    subst (λ e. IsDistinct e names) ties (IsDistinct-from_sorted bytes_cmp names rise)

module _ (facts : List posts_of.Fact) (rows : List Row) where
  named : (name : List ℕ) (r : Row) → thread_row facts rows name ≡ Some r → r.name ≡ name
  named name r is = by (last (thread facts name)) is
    where
      by : (o : Option Post) → option_map (λ post. record { time = post.date; name = name; kind = row.Forum; user = []; text = thread_title facts rows name }) o ≡ Some r → r.name ≡ name
      by None e = cc
      by (Some post) e = cc

  -- threads of names that rise have distinct names
  pub distinct_threads : (names : List (List ℕ)) → IsStrictlySortedBy bytes_cmp names → AreDistinct (map (λ r. r.name) (filter_map (thread_row facts rows) names))
  distinct_threads names rise =
      distinct-given (thread_row facts rows) (λ name. name) (λ r. r.name) named names (subst AreDistinct (sym (same_names names)) (distinct_names names rise))

-- a timeline of rows by name is that of the rows
pub same_timeline : (rows : List Row) → AreDistinct (map (λ r. r.name) rows) → timeline (by_name (λ r. r.name) rows) ≡ timeline rows
same_timeline rows d =
    sym (in_order-permutation latest_first-IsTotalOrder (λ r. (r.time, r.name)) latest_first-IsAntisymmetric rows (by_name (λ r. r.name) rows)
    (distinct-places latest_first (λ r. (r.time, r.name)) latest_first-IsTotalOrder latest_first-IsAntisymmetric (λ r. r.name) (λ x y other. latest-other x.time y.time x.name y.name other) rows d)
    (IsPermutation-by_name (λ r. r.name) rows d))
