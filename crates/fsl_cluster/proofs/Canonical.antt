-- The facts determine the maps, so maps of the same facts are as good where they have no less to spare.
use Rattle.std.proofs.Common.{◌≡◌, ℕ, List, [], false, Option, Some, None, is_some, option_and_then, refl, sym, ap, subst, ◌∙◌}
use Rattle.std.specs.List.Sorted.{IsStrictlySortedBy}
use Rattle.std.specs.Map.{keys_of}
use Rattle.std.proofs.lemmas.Map.Lookups.{exact_bytes}
use Rattle.fsl_order.specs.Names.{bytes_cmp}
use Rattle.fsl_order.specs.TableState.{IsAsBefore}
use Rattle.fsl_order.proofs.Orders.{bytes_cmp-IsTotalOrder}
use Rattle.fsl_table.specs.Exact.{pair_cmp, exact_pair}
use Rattle.fsl_table.specs.declared.key.Pair.{Pair}
use Rattle.fsl_table.specs.Contents.{value_at}
use Rattle.fsl_table.proofs.PairOrder.{pair_cmp-IsTotalOrder}
use Rattle.fsl_table.proofs.Facts.{same_facts}
use Rattle.fsl_table.proofs.Finding.{same_found, same_units}
use Rattle.fsl_cluster.specs.declared.entry.Entry.{Entry}
use Rattle.fsl_cluster.specs.declared.tables.Tables.{Tables}
use Rattle.fsl_cluster.specs.Kept.{AreAsGood, AreLaid, ArePairs, Entries, IsKept, entry_of, fact_of, facts_of, held_of, is_absent, is_free, lists}

same_entries : (es fs : Entries) → facts_of es ≡ facts_of fs → es ≡ fs
same_entries es fs h = same_facts fact_of (λ f. f.name) (λ e. refl) entry_of (λ e. refl) es fs h

same_pairs : (f : Entry → List (List ℕ)) (es fs : Entries) (ps rs : List (Pair × Unit {0})) → IsStrictlySortedBy pair_cmp (keys_of ps) → IsStrictlySortedBy pair_cmp (keys_of rs)
    → ArePairs f es ps → ArePairs f fs rs → es ≡ fs → ps ≡ rs
same_pairs f es fs ps rs h k p r e =
    same_found pair_cmp pair_cmp-IsTotalOrder exact_pair ps rs h k
    (λ q. same_units (value_at pair_cmp q ps) (value_at pair_cmp q rs) (p q ∙ ap (λ es. lists f (option_and_then (λ c. value_at bytes_cmp c es) q.second) q.first) e ∙ sym (r q)))

same_sets : (ns ms : List (List ℕ × Unit {0})) → IsStrictlySortedBy bytes_cmp (keys_of ns) → IsStrictlySortedBy bytes_cmp (keys_of ms)
    → ((q : List ℕ) → is_some (value_at bytes_cmp q ns) ≡ is_some (value_at bytes_cmp q ms)) → ns ≡ ms
same_sets ns ms h k same = same_found bytes_cmp bytes_cmp-IsTotalOrder exact_bytes ns ms h k (λ q. same_units (value_at bytes_cmp q ns) (value_at bytes_cmp q ms) (same q))

-- the second has the entries of the first
record HasEntries (t s : Tables) : Type 0 where
  pub facts : s.facts.entries ≡ t.facts.entries
  pub members : s.members.entries ≡ t.members.entries
  pub refs : s.refs.entries ≡ t.refs.entries
  pub unclustered : s.unclustered.entries ≡ t.unclustered.entries
  pub missing : s.missing.entries ≡ t.missing.entries

good_entries : (t s : Tables) → AreAsGood t s → HasEntries t s
good_entries t s g = record { facts = g.facts.entries; members = g.members.entries; refs = g.refs.entries; unclustered = g.unclustered.entries; missing = g.missing.entries }

pairs_as : (f : Entry → List (List ℕ)) (es fs : Entries) (ps rs : List (Pair × Unit {0})) → fs ≡ es → rs ≡ ps → ArePairs f es ps → ArePairs f fs rs
pairs_as f es fs ps rs p q k key = ap (λ es. is_some (value_at pair_cmp key es)) q ∙ k key ∙ ap (λ es. lists f (option_and_then (λ c. value_at bytes_cmp c es) key.second) key.first) (sym p)

kept_as : (t s : Tables) → HasEntries t s → IsKept t → IsKept s
kept_as t s h k = record {
  laid = record {
    ordered = subst (λ es. IsStrictlySortedBy bytes_cmp (keys_of es)) (sym h.facts) k.laid.ordered;
    members_ordered = subst (λ es. IsStrictlySortedBy pair_cmp (keys_of es)) (sym h.members) k.laid.members_ordered;
    refs_ordered = subst (λ es. IsStrictlySortedBy pair_cmp (keys_of es)) (sym h.refs) k.laid.refs_ordered;
    members = pairs_as (λ e. e.members) t.facts.entries s.facts.entries t.members.entries s.members.entries h.facts h.members k.laid.members;
    refs = pairs_as (λ e. e.refs) t.facts.entries s.facts.entries t.refs.entries s.refs.entries h.facts h.refs k.laid.refs;
  };
  unclustered_ordered = subst (λ es. IsStrictlySortedBy bytes_cmp (keys_of es)) (sym h.unclustered) k.unclustered_ordered;
  missing_ordered = subst (λ es. IsStrictlySortedBy bytes_cmp (keys_of es)) (sym h.missing) k.missing_ordered;
  unclustered = λ q. ap (λ es. is_some (value_at bytes_cmp q es)) h.unclustered ∙ k.unclustered q ∙ ap (λ es. is_free es q) (sym h.facts);
  missing = λ q. ap (λ es. is_some (value_at bytes_cmp q es)) h.missing ∙ k.missing q ∙ ap (λ es. is_absent es q) (sym h.facts);
}

-- maps of the same facts, with no less to spare, are as good
pub good_as : (before now : Tables) → IsKept before → IsKept now → IsAsBefore (held_of before) (held_of now) → AreAsGood before now
good_as before now kb kn same =
    let fe : now.facts.entries ≡ before.facts.entries = same_entries now.facts.entries before.facts.entries same.facts in
    let me : now.members.entries ≡ before.members.entries =
    same_pairs (λ e. e.members) now.facts.entries before.facts.entries now.members.entries before.members.entries kn.laid.members_ordered kb.laid.members_ordered kn.laid.members kb.laid.members fe in
    let re : now.refs.entries ≡ before.refs.entries =
    same_pairs (λ e. e.refs) now.facts.entries before.facts.entries now.refs.entries before.refs.entries kn.laid.refs_ordered kb.laid.refs_ordered kn.laid.refs kb.laid.refs fe in
    let ue : now.unclustered.entries ≡ before.unclustered.entries =
    same_sets now.unclustered.entries before.unclustered.entries kn.unclustered_ordered kb.unclustered_ordered (λ q. kn.unclustered q ∙ ap (λ es. is_free es q) fe ∙ sym (kb.unclustered q)) in
    let ge : now.missing.entries ≡ before.missing.entries =
    same_sets now.missing.entries before.missing.entries kn.missing_ordered kb.missing_ordered (λ q. kn.missing q ∙ ap (λ es. is_absent es q) fe ∙ sym (kb.missing q)) in
    record {
      facts = record { entries = fe; spare = same.spare.0 };
      members = record { entries = me; spare = same.spare.1.0 };
      refs = record { entries = re; spare = same.spare.1.1.0 };
      unclustered = record { entries = ue; spare = same.spare.1.1.1.0 };
      missing = record { entries = ge; spare = same.spare.1.1.1.1.0 };
    }

-- and maps that are as good hold the same
pub kept_good : (before now : Tables) → AreAsGood before now → IsKept before → IsKept now
kept_good before now g k = kept_as before now (good_entries before now g) k

pub sorted_none : (ns : List (List ℕ × Unit {0})) → ns ≡ [] → IsStrictlySortedBy bytes_cmp (keys_of ns)
unfolding IsStrictlySortedBy
sorted_none ns e = subst (λ es. IsStrictlySortedBy bytes_cmp (keys_of es)) (sym e) tt

pub laid_none : (t : Tables) → t.facts.entries ≡ [] → t.members.entries ≡ [] → t.refs.entries ≡ [] → AreLaid t
unfolding IsStrictlySortedBy
laid_none t p q r = record {
  ordered = subst (λ es. IsStrictlySortedBy bytes_cmp (keys_of es)) (sym p) tt;
  members_ordered = subst (λ es. IsStrictlySortedBy pair_cmp (keys_of es)) (sym q) tt;
  refs_ordered = subst (λ es. IsStrictlySortedBy pair_cmp (keys_of es)) (sym r) tt;
  members = pairs_as (λ e. e.members) [] t.facts.entries [] t.members.entries p q (λ k. none (λ e. e.members) k.first k.second);
  refs = pairs_as (λ e. e.refs) [] t.facts.entries [] t.refs.entries p r (λ k. none (λ e. e.refs) k.first k.second);
}
  where
    none : (f : Entry → List (List ℕ)) (p : List ℕ) (s : Option (List ℕ)) → false ≡ lists f (option_and_then (λ c. value_at {X = Entry} bytes_cmp c []) s) p
    none f p None = refl
    none f p (Some c) = refl

pub kept_none : (t : Tables) → t.facts.entries ≡ [] → t.members.entries ≡ [] → t.refs.entries ≡ [] → t.unclustered.entries ≡ [] → t.missing.entries ≡ [] → IsKept t
unfolding IsStrictlySortedBy
kept_none t p q r u m = record {
  laid = laid_none t p q r;
  unclustered_ordered = subst (λ es. IsStrictlySortedBy bytes_cmp (keys_of es)) (sym u) tt;
  missing_ordered = subst (λ es. IsStrictlySortedBy bytes_cmp (keys_of es)) (sym m) tt;
  unclustered = λ q. ap (λ es. is_some (value_at bytes_cmp q es)) u ∙ ap (λ es. is_free es q) (sym p);
  missing = λ q. ap (λ es. is_some (value_at bytes_cmp q es)) m ∙ ap (λ es. is_absent es q) (sym p);
}

pub as_good : (before now : Tables) → AreAsGood before now → IsAsBefore (held_of before) (held_of now)
as_good before now g = record { facts = ap facts_of g.facts.entries; spare = (g.facts.spare, (g.members.spare, (g.refs.spare, (g.unclustered.spare, (g.missing.spare, tt))))) }
