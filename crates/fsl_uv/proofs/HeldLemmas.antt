-- The sum of the contents, as one path changes.
use Rattle.std.proofs.Common.{◌≡◌, ℕ, ◌+◌, ◌≤◌, Bool, true, false, cond, List, [], ◌∷◌, length, Option, Some, None, refl, sym, ap, ◌∙◌, arith}
use Rattle.std.specs.Prelude.{is_some, not, nat_lt, ◌||◌}
use Rattle.std.specs.List.{AllByRecursion}
use Rattle.std.specs.List.Sorted.{IsStrictlySortedBy}
use Rattle.std.specs.Map.{keys_of, remove_entry}
use Rattle.std.specs.Ordering.{is_eq, match_ordering}
use Rattle.std.specs.Option.{option_map_or}
use Rattle.std.specs.BTreeMap.{is_at, insert_entry}
use Rattle.std.specs.declared.cmp.Ordering.TheVariants.{Less, Equal, Greater}
use Rattle.fsl_order.specs.Names.{bytes_cmp}
use Rattle.fsl_order.specs.Maps.{value_at}
use Rattle.fsl_order.proofs.Orders.{bytes_cmp-IsTotalOrder}
use Rattle.fsl_table.proofs.Entries.{none_above, lookup-insert_entry, sorted-insert_entry}
use Rattle.fsl_uv.specs.Entries.{Version, content}
use Rattle.fsl_uv.specs.Maps.{total}
use Rattle.fsl_uv.specs.Laws.{Rises}
use Rattle.fsl_uv.specs.Holding.{size_at, new_paths}
use Rattle.fsl_uv.specs.declared.Entry.{Entry}
use Rattle.fsl_uv.specs.Entries.{version_of}
use Rattle.fsl_uv.specs.Maps.{version_cmp, most_bytes, most_paths, is_over}
use Rattle.fsl_uv.specs.Syncing.{is_kept, with_entry}
use Rattle.fsl_uv.proofs.Merging.{only-merge}
use Rattle.fsl_uv.proofs.Versions.{version_cmp-IsTotalOrder}
use Rattle.fsl_order.proofs.GreatestLemmas.{greater-none}
use Rattle.fsl_order.specs.Rows.{greater}
use Rattle.std.specs.Str.{bytes_eq}
use Rattle.std.specs.Ordering.{is_lt}
use Rattle.std.specs.Cmp.Lexicographic.{texts_ties, bytes_decides}

abbrev Map : Type 0
Map = List (List ℕ × Version)

abbrev size : Version → ℕ
size v = length (content v.bytes)

chained : (x y : List ℕ) (ks : List (List ℕ)) → bytes_cmp x y ≡ Less → AllByRecursion (λ z. bytes_cmp y z ≡ Less) ks → AllByRecursion (λ z. bytes_cmp x z ≡ Less) ks
chained x y [] less all = tt
chained x y (z ∷ ks) less all = (bytes_cmp-IsTotalOrder.trans x y z less all.0, chained x y ks less all.1)

-- a path below the first of a rising map isn't there
pub none-below : (p : List ℕ) (e : List ℕ × Version) (m : Map) → Rises (e ∷ m) → bytes_cmp p e.0 ≡ Less → value_at m p ≡ None
unfolding IsStrictlySortedBy
none-below p e m h less = none_above bytes_cmp-IsTotalOrder p m (chained p e.0 (keys_of m) less h.0)

pub size-within : (m : Map) (p : List ℕ) → size_at m p ≤ total m
size-within [] p = omega arith
size-within (e ∷ m) p =
    let rest = size-within m p in
    elim (is_eq (bytes_cmp p e.0)) as (λ b. option_map_or size (cond b (Some e.1) (value_at m p)) 0 ≤ size e.1 + total m) [
      | true ↦ omega arith
      | false ↦ omega (arith, rest)
    ]

pub total-insert : (p : List ℕ) (v : Version) (m : Map) → Rises m → total (insert_entry bytes_cmp m p v) + size_at m p ≡ total m + size v
unfolding IsStrictlySortedBy
total-insert p v [] h = omega arith
total-insert p v (e ∷ m) h =
    let rest = total-insert p v m h.1 in
    elim (bytes_cmp p e.0) as (λ r. bytes_cmp p e.0 ≡ r → total (match_ordering r ((p, v) ∷ e ∷ m) ((e.0, v) ∷ m) (e ∷ insert_entry bytes_cmp m p v)) + option_map_or size (cond (is_eq r) (Some e.1) (value_at m p)) 0 ≡ size e.1 + total m + size v) [
      | Less ↦ λ less. let none : size_at m p ≡ 0 = ap (λ (o : Option Version). option_map_or size o 0) (none-below p e m h less) in omega (arith, none)
      | Equal ↦ λ _. omega arith
      | Greater ↦ λ _. omega (arith, rest)
    ] refl

pub total-remove : (p : List ℕ) (m : Map) → total (remove_entry (is_at (bytes_cmp p)) m) + size_at m p ≡ total m
total-remove p [] = omega arith
total-remove p (e ∷ m) =
    let rest = total-remove p m in
    elim (is_eq (bytes_cmp p e.0)) as (λ b. total (cond b m (e ∷ remove_entry (is_at (bytes_cmp p)) m)) + option_map_or size (cond b (Some e.1) (value_at m p)) 0 ≡ size e.1 + total m) [
      | true ↦ omega arith
      | false ↦ omega (arith, rest)
    ]

pub length-insert : (p : List ℕ) (v : Version) (m : Map) → Rises m → length (insert_entry bytes_cmp m p v) ≡ length m + new_paths m p
unfolding IsStrictlySortedBy
length-insert p v [] h = refl
length-insert p v (e ∷ m) h =
    let rest = length-insert p v m h.1 in
    elim (bytes_cmp p e.0) as (λ r. bytes_cmp p e.0 ≡ r → length (match_ordering r ((p, v) ∷ e ∷ m) ((e.0, v) ∷ m) (e ∷ insert_entry bytes_cmp m p v)) ≡ length (e ∷ m) + cond (is_some (cond (is_eq r) (Some e.1) (value_at m p))) 0 1) [
      | Less ↦ λ less. let none : new_paths m p ≡ 1 = ap (λ (o : Option Version). cond (is_some o) 0 1) (none-below p e m h less) in omega (arith, none)
      | Equal ↦ λ _. omega arith
      | Greater ↦ λ _. omega (arith, rest)
    ] refl

-- ---- an entry that is put in

newer-at : (m : Map) (e : Entry) (o : Option Version) → value_at m e.path ≡ o → option_map_or (λ v. not (is_lt (version_cmp v (version_of e)))) o false ≡ false
    → greater version_cmp o (Some (version_of e)) ≡ Some (version_of e)
newer-at m e None is h = refl
newer-at m e (Some v) is h = ap (λ b. Some (cond b (version_of e) v)) (not_false (is_lt (version_cmp v (version_of e))) h)
  where
    not_false : (b : Bool) → not b ≡ false → b ≡ true
    not_false true h = refl
    not_false false h = absurd cc

older-at : (m : Map) (e : Entry) (o : Option Version) → value_at m e.path ≡ o → option_map_or (λ v. not (is_lt (version_cmp v (version_of e)))) o false ≡ true
    → greater version_cmp o (Some (version_of e)) ≡ o
older-at m e None is h = absurd cc
older-at m e (Some v) is h = ap (λ b. Some (cond b (version_of e) v)) (not_true (is_lt (version_cmp v (version_of e))) h)
  where
    not_true : (b : Bool) → not b ≡ true → b ≡ false
    not_true true h = absurd cc
    not_true false h = refl

-- the map of one entry has a version at its path alone
pub single : (e : Entry) (q : List ℕ) → value_at ((e.path, version_of e) ∷ []) q ≡ cond (bytes_eq q e.path) (Some (version_of e)) None
single e q = ap (λ b. cond b (Some (version_of e)) None) (sym (texts_ties q e.path))

pub inserted : (m : Map) (e : Entry) → Rises m → is_kept m e ≡ false → insert_entry bytes_cmp m e.path (version_of e) ≡ with_entry m e
inserted m e up new =
    only-merge m ((e.path, version_of e) ∷ []) (insert_entry bytes_cmp m e.path (version_of e)) (sorted-insert_entry bytes_cmp-IsTotalOrder e.path (version_of e) m up)
    (λ q. lookup-insert_entry bytes_cmp-IsTotalOrder q e.path (version_of e) m ∙ ap (λ b. cond b (Some (version_of e)) (value_at m q)) (sym (texts_ties q e.path))
    ∙ elim (bytes_eq q e.path) as (λ b. bytes_eq q e.path ≡ b → cond b (Some (version_of e)) (value_at m q) ≡ greater version_cmp (value_at m q) (cond b (Some (version_of e)) None)) [
      | true ↦ λ t. let same : q ≡ e.path = (bytes_decides q e.path).0 t in sym (ap (λ x. greater version_cmp (value_at m x) (Some (version_of e))) same ∙ newer-at m e (value_at m e.path) refl new)
      | false ↦ λ t. sym (greater-none version_cmp version_cmp-IsTotalOrder (value_at m q))
    ] refl
    ∙ ap (greater version_cmp (value_at m q)) (sym (single e q)))

pub kept-same : (m : Map) (e : Entry) → Rises m → is_kept m e ≡ true → m ≡ with_entry m e
kept-same m e up old =
    only-merge m ((e.path, version_of e) ∷ []) m up
    (λ q. elim (bytes_eq q e.path) as (λ b. bytes_eq q e.path ≡ b → value_at m q ≡ greater version_cmp (value_at m q) (cond b (Some (version_of e)) None)) [
      | true ↦ λ t. let same : q ≡ e.path = (bytes_decides q e.path).0 t in
          ap (value_at m) same ∙ sym (ap (λ x. greater version_cmp (value_at m x) (Some (version_of e))) same ∙ older-at m e (value_at m e.path) refl old)
      | false ↦ λ t. sym (greater-none version_cmp version_cmp-IsTotalOrder (value_at m q))
    ] refl
    ∙ ap (greater version_cmp (value_at m q)) (sym (single e q)))

-- ---- limits

over-by : (b n : ℕ) (c : Map) → total c ≡ b → length c ≡ n → is_over c ≡ (nat_lt most_bytes b || nat_lt most_paths n)
over-by b n c s l = λ i. nat_lt most_bytes (s i) || nat_lt most_paths (l i)

module _ (m : Map) (e : Entry) (up : Rises m) (new : is_kept m e ≡ false) (bytes count : ℕ) (sum : bytes + size_at m e.path ≡ total m + length (content e.bytes)) (many : count ≡ length m + new_paths m e.path) where
  pub with-bytes : bytes ≡ total (with_entry m e)
  with-bytes =
      let t = total-insert e.path (version_of e) m up in
      let same : total (insert_entry bytes_cmp m e.path (version_of e)) ≡ total (with_entry m e) = ap total (inserted m e up new) in
      omega (arith, t, same, sum)

  pub with-count : count ≡ length (with_entry m e)
  with-count = many ∙ sym (length-insert e.path (version_of e) m up) ∙ ap length (inserted m e up new)

  pub with-over : is_over (with_entry m e) ≡ (nat_lt most_bytes bytes || nat_lt most_paths count)
  with-over = over-by bytes count (with_entry m e) (sym with-bytes) (sym with-count)
