-- The sum of the held sizes, as records change it.
use Rattle.std.proofs.Common.{◌≡◌, ℕ, ◌+◌, ◌-◌, Bool, true, false, cond, not, List, [], ◌∷◌, ◌++◌, length, map, Option, Some, None, refl, sym, ap, subst, ◌∙◌, arith}
use Rattle.std.specs.Prelude.{T, ◌&&◌, ◌||◌, if◌then◌else◌, is_some, sum_by, IfSome}
use Rattle.std.specs.Option.{option_map, option_map_or}
use Rattle.std.specs.Ordering.{is_eq, is_lt, eq_by_cmp}
use Rattle.std.specs.declared.cmp.Ordering.{Ordering}
use Rattle.std.specs.declared.cmp.Ordering.TheVariants.{Less, Equal, Greater}
use Rattle.std.specs.Cmp.{eq_by_cmp_equiv, alike_right}
use Rattle.std.specs.FinMap as map_of
use Rattle.std.specs.FinSet as set
use Rattle.std.specs.FinMap.{put, find, is_sorted}
use Rattle.std.specs.FinMap.Entries.{by_order, below_all, where_key, is_sorted-where_key, find-where_key}
use Rattle.std.proofs.lemmas.List.Sums.{sum_by-cons}
use Rattle.fsl_order.specs.Names.{bytes_cmp}
use Rattle.fsl_order.proofs.Orders.{bytes_cmp-IsTotalOrder, bytes_cmp-IsAntisymmetric}
use Rattle.fsl_record.specs.declared.Config.{Config}
use Rattle.fsl_record.specs.Receipts.{Brought}
use Rattle.fsl_record.specs.declared.Record.{Record}
use Rattle.fsl_record.specs.declared.Record.TheVariants as record_of
use Rattle.fsl_blobs.specs.declared.blobs.HeldArtifact.{HeldArtifact}
use Rattle.fsl_blobs.specs.Fold.{Held, HeldSet, Contents, contents, after, received, is_new, held_bytes}
use Rattle.fsl_blobs.specs.Kept.{is_kept, held_at, artifact_of, IsKept}
use Rattle.fsl_blobs.proofs.Places.{contents_push}
use Rattle.fsl_blobs.proofs.KeptLemmas.{kept-new}

abbrev size_of : Held → ℕ
size_of a = length a.bytes

abbrev total_of : List (List ℕ × Held) → ℕ
total_of es = sum_by size_of (map (λ e. e.1) es)

-- ---- names in order

pub front_first : (a b : Bool) → T (a && b) → T a
front_first true b h = tt
front_first false b h = absurd h

pub front_second : (a b : Bool) → T (a && b) → T b
front_second true b h = h
front_second false b h = absurd h

pub is_less : (o : Ordering) → T (is_lt o) → o ≡ Less
is_less Less h = refl
is_less Equal h = absurd h
is_less Greater h = absurd h

less_is : (o : Ordering) → o ≡ Less → T (is_lt o)
less_is o e = subst (λ (x : Ordering). T (is_lt x)) (sym e) tt

-- a name below another isn't it
pub other_less : (o : Ordering) → T (is_lt o) → is_eq o ≡ false
other_less Less h = refl
other_less Equal h = absurd h
other_less Greater h = absurd h

pub below_less : (x y : List ℕ) (es : List (List ℕ × Held)) → bytes_cmp x y ≡ Less → T (below_all bytes_cmp y es) → T (below_all bytes_cmp x es)
below_less x y [] p h = tt
below_less x y (e ∷ es) p h =
    both (is_lt (bytes_cmp x e.0)) (below_all bytes_cmp x es)
    (less_is (bytes_cmp x e.0) (bytes_cmp-IsTotalOrder.trans x y e.0 p (is_less (bytes_cmp y e.0) (front_first (is_lt (bytes_cmp y e.0)) (below_all bytes_cmp y es) h))))
    (below_less x y es p (front_second (is_lt (bytes_cmp y e.0)) (below_all bytes_cmp y es) h))
  where
    both : (a b : Bool) → T a → T b → T (a && b)
    both true b p q = q
    both false b p q = p

pub none_below : (name : List ℕ) (es : List (List ℕ × Held)) → T (below_all bytes_cmp name es) → find bytes_cmp name es ≡ None
none_below name [] h = refl
none_below name (e ∷ es) h =
    ap (λ (b : Bool). cond b (Some e.1) (find bytes_cmp name es)) (other_less (bytes_cmp name e.0) (front_first (is_lt (bytes_cmp name e.0)) (below_all bytes_cmp name es) h))
    ∙ none_below name es (front_second (is_lt (bytes_cmp name e.0)) (below_all bytes_cmp name es) h)

-- ---- one artifact more

total_put : (k : List ℕ) (a : Held) (es : List (List ℕ × Held)) → find bytes_cmp k es ≡ None → total_of (put bytes_cmp k a es) ≡ total_of es + size_of a
total_put k a [] none = sum_by-cons size_of a [] ∙ omega arith
total_put k a (e ∷ es) none =
    elim (bytes_cmp k e.0) as (λ r. cond (is_eq r) (Some e.1) (find bytes_cmp k es) ≡ None → total_of (by_order r ((k, a) ∷ e ∷ es) ((e.0, a) ∷ es) (e ∷ put bytes_cmp k a es)) ≡ total_of (e ∷ es) + size_of a) [
      | Less ↦ λ _. sum_by-cons size_of a (map (λ e. e.1) (e ∷ es)) ∙ omega arith
      | Equal ↦ λ h. absurd cc
      | Greater ↦ λ h.
          let rest : total_of (put bytes_cmp k a es) ≡ total_of es + size_of a = total_put k a es h in
          sum_by-cons size_of e.1 (map (λ e. e.1) (put bytes_cmp k a es)) ∙ omega (arith, rest, sum_by-cons size_of e.1 (map (λ e. e.1) es))
    ] none

pub bytes_more : (held : HeldSet) (name : List ℕ) (a : Held) → map_of.get held name ≡ None → held_bytes (map_of.insert held name a) ≡ held_bytes held + length a.bytes
bytes_more held name a none =
    ap total_of (map_of.entries-insert bytes_cmp-IsTotalOrder held name a) ∙ total_put name a (map_of.entries held) (sym (map_of.get-entries held name) ∙ none)

-- ---- another of the same size in its place

total_again : (k : List ℕ) (a b : Held) (es : List (List ℕ × Held)) → size_of b ≡ size_of a → T (is_sorted bytes_cmp es) → find bytes_cmp k es ≡ Some a → total_of (put bytes_cmp k b es) ≡ total_of es
total_again k a b [] same rise found = absurd cc
total_again k a b (e ∷ es) same rise found =
    let under = front_first (below_all bytes_cmp e.0 es) (is_sorted bytes_cmp es) rise in
    elim (bytes_cmp k e.0) as (λ r. bytes_cmp k e.0 ≡ r → cond (is_eq r) (Some e.1) (find bytes_cmp k es) ≡ Some a → total_of (by_order r ((k, b) ∷ e ∷ es) ((e.0, b) ∷ es) (e ∷ put bytes_cmp k b es)) ≡ total_of (e ∷ es)) [
      | Less ↦ λ p h. let none = none_below k es (below_less k e.0 es p under) in absurd cc
      | Equal ↦ λ p h.
          let is : e.1 ≡ a = cc in
          let size : size_of e.1 ≡ size_of a = ap size_of is in
          sum_by-cons size_of b (map (λ e. e.1) es) ∙ omega (arith, same, size, sum_by-cons size_of e.1 (map (λ e. e.1) es))
      | Greater ↦ λ p h.
          let rest : total_of (put bytes_cmp k b es) ≡ total_of es = total_again k a b es same (front_second (below_all bytes_cmp e.0 es) (is_sorted bytes_cmp es) rise) h in
          sum_by-cons size_of e.1 (map (λ e. e.1) (put bytes_cmp k b es)) ∙ omega (arith, rest, sum_by-cons size_of e.1 (map (λ e. e.1) es))
    ] refl found

bytes_again : (held : HeldSet) (name : List ℕ) (a b : Held) → map_of.get held name ≡ Some a → size_of b ≡ size_of a → held_bytes (map_of.insert held name b) ≡ held_bytes held
bytes_again held name a b there same =
    ap total_of (map_of.entries-insert bytes_cmp-IsTotalOrder held name b)
    ∙ total_again name a b (map_of.entries held) same (map_of.entries_sorted held) (sym (map_of.get-entries held name) ∙ there)

-- ---- one artifact less

abbrev pub other : List ℕ → List ℕ → Bool
other name q = not (eq_by_cmp bytes_cmp name q)

flipped : {A : Type 0} (b : Bool) (x y : A) → cond b x y ≡ cond (not b) y x
flipped true x y = refl
flipped false x y = refl

-- the entries after a removal are those of the other names
pub entries_less : (held : HeldSet) (name : List ℕ) → map_of.entries (map_of.remove held name) ≡ where_key bytes_cmp (other name) (map_of.entries held)
entries_less held name =
    let es = where_key bytes_cmp (other name) (map_of.entries held) in
    let rise = is_sorted-where_key bytes_cmp (other name) (map_of.entries held) (map_of.entries_sorted held) in
    let same : map_of.remove held name ≡ map_of.from_sorted es =
    map_of.same_map bytes_cmp-IsTotalOrder bytes_cmp-IsAntisymmetric (map_of.remove held name) (map_of.from_sorted es)
    (λ q.
    map_of.get-remove bytes_cmp-IsTotalOrder held name q
    ∙ flipped (eq_by_cmp bytes_cmp q name) None (map_of.get held q)
    ∙ (λ i. cond (not ((eq_by_cmp_equiv bytes_cmp-IsTotalOrder).symm q name i)) (map_of.get-entries held q i) None)
    ∙ sym (find-where_key bytes_cmp (other name) q (λ x t. ap (λ r. not (is_eq r)) (sym (alike_right bytes_cmp-IsTotalOrder q x name t))) (map_of.entries held))
    ∙ sym (map_of.get-from_sorted bytes_cmp es q rise)) in
    ap map_of.entries same ∙ map_of.entries-from_sorted bytes_cmp es rise

abbrev size_or : Option Held → ℕ
size_or o = option_map_or size_of o 0

total_less : (name : List ℕ) (es : List (List ℕ × Held)) → T (is_sorted bytes_cmp es) → total_of (where_key bytes_cmp (other name) es) + size_or (find bytes_cmp name es) ≡ total_of es
total_less name [] rise = refl
total_less name (e ∷ es) rise =
    let rest : total_of (where_key bytes_cmp (other name) es) + size_or (find bytes_cmp name es) ≡ total_of es = total_less name es (front_second (below_all bytes_cmp e.0 es) (is_sorted bytes_cmp es) rise) in
    elim (bytes_cmp name e.0) as (λ r. bytes_cmp name e.0 ≡ r → total_of (cond (not (is_eq r)) (e ∷ where_key bytes_cmp (other name) es) (where_key bytes_cmp (other name) es)) + size_or (cond (is_eq r) (Some e.1) (find bytes_cmp name es)) ≡ total_of (e ∷ es)) [
      | Less ↦ λ _. omega (arith, rest, sum_by-cons size_of e.1 (map (λ e. e.1) (where_key bytes_cmp (other name) es)), sum_by-cons size_of e.1 (map (λ e. e.1) es))
      | Equal ↦ λ p.
          let same : name ≡ e.0 = bytes_cmp-IsAntisymmetric name e.0 p in
          let under = front_first (below_all bytes_cmp e.0 es) (is_sorted bytes_cmp es) rise in
          let none : find bytes_cmp name es ≡ None = subst (λ (n : List ℕ). find bytes_cmp n es ≡ None) (sym same) (none_below e.0 es under) in
          let gone : size_or (find bytes_cmp name es) ≡ 0 = ap size_or none in
          omega (arith, rest, gone, sum_by-cons size_of e.1 (map (λ e. e.1) es))
      | Greater ↦ λ _. omega (arith, rest, sum_by-cons size_of e.1 (map (λ e. e.1) (where_key bytes_cmp (other name) es)), sum_by-cons size_of e.1 (map (λ e. e.1) es))
    ] refl

bytes_less : (held : HeldSet) (name : List ℕ) (size : ℕ) → size ≡ size_or (map_of.get held name) → held_bytes held - size ≡ held_bytes (map_of.remove held name)
bytes_less held name size is =
    let all : total_of (where_key bytes_cmp (other name) (map_of.entries held)) + size_or (find bytes_cmp name (map_of.entries held)) ≡ held_bytes held = total_less name (map_of.entries held) (map_of.entries_sorted held) in
    let found : size ≡ size_or (find bytes_cmp name (map_of.entries held)) = is ∙ ap size_or (map_of.get-entries held name) in
    let left : held_bytes (map_of.remove held name) ≡ total_of (where_key bytes_cmp (other name) (map_of.entries held)) = ap total_of (entries_less held name) in
    omega (arith, all, found, left)

-- ---- one record more

-- the sizes that are kept are those of the bytes
pub size_map : (o : Option HeldArtifact) → IfSome o (λ a. a.size ≡ length a.bytes.value) → option_map_or (λ a. a.size) o 0 ≡ size_or (option_map artifact_of o)
size_map None h = refl
size_map (Some a) h = h

turn : (a b : Bool) → not a ≡ b → a ≡ not b
turn true b e = ap not e
turn false b e = ap not e

module _ (records : List Record) (found : Config) (es : List (List ℕ × HeldArtifact)) (shuns announced : List (List ℕ)) (kept : IsKept records found es shuns announced) (total : ℕ) (sum : total ≡ held_bytes (contents records).held) where
  abbrev c : Contents
  c = contents records

  pushed : (r : Record) → held_bytes (contents (records ++ r ∷ [])).held ≡ held_bytes (after c r).held
  pushed r = ap (λ (x : Contents). held_bytes x.held) (contents_push records r)

  abbrev held_with : Bool → List ℕ → Option Brought → List ℕ → Bool → Contents
  held_with private name receipt bytes b = if b then record c { held = map_of.insert c.held name (record { private = private; bytes = bytes }); receipts = received c.receipts name receipt } else c

  pub total-known : (private : Bool) (name : List ℕ) (receipt : Option Brought) (bytes : List ℕ) → is_kept es shuns name ≡ true → total ≡ held_bytes (contents (records ++ record_of.Blob private name receipt bytes ∷ [])).held
  total-known private name receipt bytes known =
      let old : is_new c name ≡ false = sym (kept-new records found es shuns announced kept name) ∙ ap not known in
      sum ∙ ap (λ (b : Bool). held_bytes (held_with private name receipt bytes b).held) (sym old) ∙ sym (pushed (record_of.Blob private name receipt bytes))

  pub total-new : (private : Bool) (name : List ℕ) (receipt : Option Brought) (bytes : List ℕ) → is_kept es shuns name ≡ false → total + length bytes ≡ held_bytes (contents (records ++ record_of.Blob private name receipt bytes ∷ [])).held
  total-new private name receipt bytes known =
      let new : is_new c name ≡ true = sym (kept-new records found es shuns announced kept name) ∙ ap not known in
      let none : map_of.get c.held name ≡ None = absent (map_of.get c.held name) (map_of.contains_key c.held name) (set.contains c.shunned name) refl (turn (map_of.contains_key c.held name || set.contains c.shunned name) true new) in
      ap (λ n. n + length bytes) sum ∙ sym (bytes_more c.held name (record { private = private; bytes = bytes }) none)
      ∙ ap (λ (b : Bool). held_bytes (held_with private name receipt bytes b).held) (sym new) ∙ sym (pushed (record_of.Blob private name receipt bytes))
    where
      absent : (o : Option Held) (b d : Bool) → is_some o ≡ b → (b || d) ≡ false → o ≡ None
      absent None b d e h = refl
      absent (Some a) true d e h = absurd cc
      absent (Some a) false d e h = absurd cc

  pub total-config : (config : Config) → total ≡ held_bytes (contents (records ++ record_of.Config config ∷ [])).held
  total-config config = sum ∙ sym (pushed (record_of.Config config))

  pub total-publish : (name : List ℕ) → total ≡ held_bytes (contents (records ++ record_of.Publish name ∷ [])).held
  total-publish name =
      sum ∙ sym (elim (map_of.get c.held name) as (λ o. map_of.get c.held name ≡ o → held_bytes (option_map_or (λ a. record c { held = map_of.insert c.held name (record a { private = false }) }) o c).held ≡ held_bytes c.held) [
        | None ↦ λ _. refl
        | Some a ↦ λ there. bytes_again c.held name a (record a { private = false }) there refl
      ] refl) ∙ sym (pushed (record_of.Publish name))

  pub total-unshun : (name : List ℕ) → total ≡ held_bytes (contents (records ++ record_of.Unshun name ∷ [])).held
  total-unshun name = sum ∙ sym (pushed (record_of.Unshun name))

  pub total-shun : (name : List ℕ) (size : ℕ) → IfSome (held_at es name) (λ a. a.size ≡ length a.bytes.value) → size ≡ option_map_or (λ a. a.size) (held_at es name) 0 → total - size ≡ held_bytes (contents (records ++ record_of.Shun name ∷ [])).held
  total-shun name size sized is =
      ap (λ n. n - size) sum ∙ bytes_less c.held name size (is ∙ size_map (held_at es name) sized ∙ ap size_or (kept.held name)) ∙ sym (pushed (record_of.Shun name))

pub total-first : (first : Record) (config : Config) (records : List Record) → first ≡ record_of.Config config → records ≡ first ∷ [] → 0 ≡ held_bytes (contents records).held
total-first first config records is one =
    sym (ap (λ (rs : List Record). held_bytes (contents rs).held) (one ∙ ap (λ (r : Record). r ∷ []) is) ∙ none)
  where
    none : held_bytes (map_of.empty {X = Held} {R = bytes_cmp}) ≡ 0
    none = ap total_of (no_entries (map_of.entries (map_of.empty {X = Held} {R = bytes_cmp})) (sym (map_of.len-entries (map_of.empty {X = Held} {R = bytes_cmp})) ∙ map_of.len-empty bytes_cmp Held))
      where
        no_entries : (es : List (List ℕ × Held)) → length es ≡ 0 → es ≡ []
        no_entries [] h = refl
        no_entries (e ∷ es) h = absurd (omega (arith, h))
