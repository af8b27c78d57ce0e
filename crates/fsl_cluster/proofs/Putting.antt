-- What the maps keep: with one fact more, with one less, and with one that becomes public.
use Rattle.std.proofs.Common.{◌≡◌, ℕ, List, true, false, not, ◌||◌, ◌&&◌, Some, None, option_and_then, sym, ap, subst, ◌∙◌}
use Rattle.std.specs.Str.{bytes_eq}
use Rattle.std.specs.BTreeMap.{is_at}
use Rattle.std.specs.List.Sorted.{IsStrictlySortedBy}
use Rattle.std.specs.Map.{keys_of}
use Rattle.fsl_order.specs.Names.{bytes_cmp, has}
use Rattle.fsl_order.proofs.Orders.{bytes_cmp-IsTotalOrder}
use Rattle.fsl_table.specs.declared.key.Pair.{Pair}
use Rattle.fsl_table.specs.Exact.{pair_cmp}
use Rattle.fsl_table.specs.Contents.{value_at, with_entry, without_key}
use Rattle.fsl_table.proofs.Entries.{sorted-insert_entry, sorted-remove_entry}
use Rattle.fsl_cluster.specs.declared.entry.Entry.{Entry}
use Rattle.fsl_cluster.specs.declared.tables.Tables.{Tables}
use Rattle.fsl_cluster.specs.Kept.{AreFewer, AreMore, Entries, ArePairs, AreLaid, IsKept, lists, is_listed, is_named, is_public, is_in, is_free, is_absent, is_unheld, is_freed}
use Rattle.fsl_cluster.proofs.Listing.{named_is, pairs_with, pairs_without, pairs_over}
use Rattle.fsl_cluster.proofs.Laying.{free_with, absent_with, free_less, absent_less, free_over, absent_over}

moved : (f : Entry → List (List ℕ)) (es fs : Entries) (ps : List (Pair × Unit {0})) → fs ≡ es → ArePairs f es ps → ArePairs f fs ps
moved f es fs ps e pairs k = pairs k ∙ ap (λ es. lists f (option_and_then (λ c. value_at bytes_cmp c es) k.second) k.first) (sym e)

pub laid_with : (t s : Tables) (name : List ℕ) (v : Entry) → AreLaid t → value_at bytes_cmp name t.facts.entries ≡ None → s.facts.entries ≡ with_entry bytes_cmp name v t.facts.entries
    → IsStrictlySortedBy pair_cmp (keys_of s.members.entries) → IsStrictlySortedBy pair_cmp (keys_of s.refs.entries)
    → AreMore t.members.entries s.members.entries name v.members → AreMore t.refs.entries s.refs.entries name v.refs → AreLaid s
laid_with t s name v laid absent facts members_ordered refs_ordered members refs =
    let es = t.facts.entries in
    record {
      ordered = subst (λ es. IsStrictlySortedBy bytes_cmp (keys_of es)) (sym facts) (sorted-insert_entry bytes_cmp-IsTotalOrder name v es laid.ordered);
      members_ordered = members_ordered;
      refs_ordered = refs_ordered;
      members = moved (λ e. e.members) (with_entry bytes_cmp name v es) s.facts.entries s.members.entries facts
          (λ k. members k ∙ pairs_with (λ e. e.members) es name v laid.ordered absent t.members.entries laid.members k);
      refs = moved (λ e. e.refs) (with_entry bytes_cmp name v es) s.facts.entries s.refs.entries facts
          (λ k. refs k ∙ pairs_with (λ e. e.refs) es name v laid.ordered absent t.refs.entries laid.refs k);
    }

pub kept_with : (t s : Tables) (name : List ℕ) (v : Entry) → IsKept t → value_at bytes_cmp name t.facts.entries ≡ None → s.facts.entries ≡ with_entry bytes_cmp name v t.facts.entries
    → IsStrictlySortedBy pair_cmp (keys_of s.members.entries) → IsStrictlySortedBy pair_cmp (keys_of s.refs.entries)
    → AreMore t.members.entries s.members.entries name v.members → AreMore t.refs.entries s.refs.entries name v.refs
    → IsStrictlySortedBy bytes_cmp (keys_of s.unclustered.entries) → IsStrictlySortedBy bytes_cmp (keys_of s.missing.entries)
    → ((q : List ℕ) → is_in s.unclustered.entries q ≡ ((is_in t.unclustered.entries q && not (has v.members q)) || (bytes_eq q name && (not v.private && not (is_named s.members.entries name)))))
    → ((q : List ℕ) → is_in s.missing.entries q ≡ ((is_in t.missing.entries q || (has v.refs q && is_unheld t.facts.entries name q)) && not (bytes_eq q name)))
    → IsKept s
kept_with t s name v kept absent facts members_ordered refs_ordered members refs unclustered_ordered missing_ordered unclustered missing =
    let es = t.facts.entries in
    let laid : AreLaid s = laid_with t s name v kept.laid absent facts members_ordered refs_ordered members refs in
    let named : is_named s.members.entries name ≡ is_listed (λ e. e.members) (with_entry bytes_cmp name v es) name =
    named_is (λ e. e.members) s.facts.entries s.members.entries laid.ordered laid.members name ∙ ap (λ es. is_listed (λ e. e.members) es name) facts in
    record {
      laid = laid;
      unclustered_ordered = unclustered_ordered;
      missing_ordered = missing_ordered;
      unclustered = λ q.
          unclustered q
          ∙ (λ i. (kept.unclustered q i && not (has v.members q)) || (bytes_eq q name && (not v.private && not (named i))))
          ∙ free_with es name v kept.laid.ordered absent q ∙ ap (λ es. is_free es q) (sym facts);
      missing = λ q.
          missing q ∙ (λ i. (kept.missing q i || (has v.refs q && is_unheld es name q)) && not (bytes_eq q name))
          ∙ absent_with es name v kept.laid.ordered absent q ∙ ap (λ es. is_absent es q) (sym facts);
    }

pub kept_less : (t s : Tables) (name : List ℕ) (v : Entry) → IsKept t → value_at bytes_cmp name t.facts.entries ≡ Some v → s.facts.entries ≡ without_key bytes_cmp name t.facts.entries
    → IsStrictlySortedBy pair_cmp (keys_of s.members.entries) → IsStrictlySortedBy pair_cmp (keys_of s.refs.entries)
    → AreFewer t.members.entries s.members.entries name v.members → AreFewer t.refs.entries s.refs.entries name v.refs
    → IsStrictlySortedBy bytes_cmp (keys_of s.unclustered.entries) → IsStrictlySortedBy bytes_cmp (keys_of s.missing.entries)
    → ((q : List ℕ) → is_in s.unclustered.entries q ≡ ((is_in t.unclustered.entries q || (has v.members q && is_freed t.facts.entries s.members.entries name q)) && not (bytes_eq q name)))
    → ((q : List ℕ) → is_in s.missing.entries q ≡ ((is_in t.missing.entries q && not (has v.refs q && not (is_named s.refs.entries q))) || (bytes_eq q name && is_named s.refs.entries name)))
    → IsKept s
kept_less t s name v kept there facts members_ordered refs_ordered members refs unclustered_ordered missing_ordered unclustered missing =
    let es = t.facts.entries in
    let less : Entries = without_key bytes_cmp name es in
    let ordered : IsStrictlySortedBy bytes_cmp (keys_of s.facts.entries) =
    subst (λ es. IsStrictlySortedBy bytes_cmp (keys_of es)) (sym facts) (sorted-remove_entry bytes_cmp-IsTotalOrder (is_at (bytes_cmp name)) es kept.laid.ordered) in
    let members_are : ArePairs (λ e. e.members) s.facts.entries s.members.entries =
    moved (λ e. e.members) less s.facts.entries s.members.entries facts (λ k. members k ∙ pairs_without (λ e. e.members) es name v kept.laid.ordered there t.members.entries kept.laid.members k) in
    let refs_are : ArePairs (λ e. e.refs) s.facts.entries s.refs.entries =
    moved (λ e. e.refs) less s.facts.entries s.refs.entries facts (λ k. refs k ∙ pairs_without (λ e. e.refs) es name v kept.laid.ordered there t.refs.entries kept.laid.refs k) in
    let in_members : (q : List ℕ) → is_named s.members.entries q ≡ is_listed (λ e. e.members) less q =
    λ q. named_is (λ e. e.members) s.facts.entries s.members.entries ordered members_are q ∙ ap (λ es. is_listed (λ e. e.members) es q) facts in
    let in_refs : (q : List ℕ) → is_named s.refs.entries q ≡ is_listed (λ e. e.refs) less q =
    λ q. named_is (λ e. e.refs) s.facts.entries s.refs.entries ordered refs_are q ∙ ap (λ es. is_listed (λ e. e.refs) es q) facts in
    record {
      laid = record { ordered = ordered; members_ordered = members_ordered; refs_ordered = refs_ordered; members = members_are; refs = refs_are };
      unclustered_ordered = unclustered_ordered;
      missing_ordered = missing_ordered;
      unclustered = λ q.
          unclustered q
          ∙ (λ i. (kept.unclustered q i || (has v.members q && (not (bytes_eq q name) && (is_public (value_at bytes_cmp q es) && not (in_members q i))))) && not (bytes_eq q name))
          ∙ free_less es name v kept.laid.ordered there q ∙ ap (λ es. is_free es q) (sym facts);
      missing = λ q.
          missing q
          ∙ (λ i. (kept.missing q i && not (has v.refs q && not (in_refs q i))) || (bytes_eq q name && in_refs name i))
          ∙ absent_less es name v kept.laid.ordered there q ∙ ap (λ es. is_absent es q) (sym facts);
    }

pub kept_over : (t s : Tables) (name : List ℕ) (v w : Entry) → IsKept t → value_at bytes_cmp name t.facts.entries ≡ Some v → v.private ≡ true → w.private ≡ false → v.members ≡ w.members → v.refs ≡ w.refs
    → s.facts.entries ≡ with_entry bytes_cmp name w t.facts.entries → s.members.entries ≡ t.members.entries → s.refs.entries ≡ t.refs.entries → s.missing.entries ≡ t.missing.entries
    → IsStrictlySortedBy bytes_cmp (keys_of s.unclustered.entries)
    → ((q : List ℕ) → is_in s.unclustered.entries q ≡ (is_in t.unclustered.entries q || (bytes_eq q name && not (is_named t.members.entries name))))
    → IsKept s
kept_over t s name v w kept there was public same_members same_refs facts members refs missing unclustered_ordered unclustered =
    let es = t.facts.entries in
    let over : Entries = with_entry bytes_cmp name w es in
    record {
      laid = record {
        ordered = subst (λ es. IsStrictlySortedBy bytes_cmp (keys_of es)) (sym facts) (sorted-insert_entry bytes_cmp-IsTotalOrder name w es kept.laid.ordered);
        members_ordered = subst (λ ps. IsStrictlySortedBy pair_cmp (keys_of ps)) (sym members) kept.laid.members_ordered;
        refs_ordered = subst (λ ps. IsStrictlySortedBy pair_cmp (keys_of ps)) (sym refs) kept.laid.refs_ordered;
        members = subst (ArePairs (λ e. e.members) s.facts.entries) (sym members)
            (moved (λ e. e.members) over s.facts.entries t.members.entries facts (pairs_over (λ e. e.members) es name v kept.laid.ordered there w same_members t.members.entries kept.laid.members));
        refs = subst (ArePairs (λ e. e.refs) s.facts.entries) (sym refs)
            (moved (λ e. e.refs) over s.facts.entries t.refs.entries facts (pairs_over (λ e. e.refs) es name v kept.laid.ordered there w same_refs t.refs.entries kept.laid.refs));
      };
      unclustered_ordered = unclustered_ordered;
      missing_ordered = subst (λ ns. IsStrictlySortedBy bytes_cmp (keys_of ns)) (sym missing) kept.missing_ordered;
      unclustered = λ q.
          unclustered q
          ∙ (λ i. kept.unclustered q i || (bytes_eq q name && not (named_is (λ e. e.members) es t.members.entries kept.laid.ordered kept.laid.members name i)))
          ∙ free_over es name v kept.laid.ordered there w was public same_members same_refs q ∙ ap (λ es. is_free es q) (sym facts);
      missing = λ q.
          ap (λ ns. is_in ns q) missing ∙ kept.missing q ∙ absent_over es name v kept.laid.ordered there w was public same_members same_refs q ∙ ap (λ es. is_absent es q) (sym facts);
    }
