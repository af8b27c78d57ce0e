-- The held names in their order, and by their places.
use Rattle.std.proofs.Common.{◌≡◌, ℕ, ◌-◌, ◌<◌, ◌≤◌, zero, suc, get_or, Bool, true, false, cond, List, [], ◌∷◌, ◌++◌, length, take, map, filter, Option, Some, None, Result, Ok, Err, IfOk, Vec, Global, refl, sym, ap, ◌∙◌, subst, arith}
use Rattle.std.specs.Prelude.{◌&&◌, ◌||◌, is_some, nat_le, filter_map, IfSome, T, slice_get, All}
use Rattle.std.specs.Option.{option_map, option_map_or, option_to_list}
use Rattle.std.specs.List.{AllByRecursion, IsDistinct, range_with_len, cons_option, list_any}
use Rattle.std.specs.Str.{bytes_eq}
use Rattle.std.specs.List.Sorted.{IsStrictlySortedBy, IsNonDecreasing, IsNonDecreasingBy}
use Rattle.std.specs.Cmp.{unsigned_tied, tied_itself}
use Rattle.std.specs.Cmp.Lexicographic.{bytes_decides, texts_ties}
use Rattle.std.specs.declared.cmp.Ordering.{Ordering}
use Rattle.std.specs.declared.cmp.Ordering.TheVariants.{Less}
use Rattle.std.specs.Ordering.{is_eq, is_lt, nat_cmp, eq_by_cmp}
use Rattle.std.specs.FinMap as map_of
use Rattle.std.specs.FinMap.{find, is_sorted}
use Rattle.std.specs.FinMap.Entries.{same_entries, below_all}
use Rattle.std.proofs.lemmas.Bool.{and_parts, le-leb}
use Rattle.std.proofs.lemmas.List.{length-map}
use Rattle.std.proofs.lemmas.List.Elements.{filter-append, All-weaker}
use Rattle.std.proofs.lemmas.List.Sorted.{IsNonDecreasingBy-from_default}
use Rattle.std.proofs.lemmas.Bool.{eqb-true}
use Rattle.fsl_order.specs.Rows.{greater, greatest}
use Rattle.fsl_order.specs.Names.{bytes_cmp}
use Rattle.fsl_order.proofs.Orders.{bytes_cmp-IsTotalOrder, bytes_cmp-IsAntisymmetric}
use Rattle.fsl_record.specs.Receipts.{Brought}
use Rattle.fsl_record.specs.declared.Record.{Record}
use Rattle.fsl_blobs.specs.declared.Found.TheVariants.{Several}
use Rattle.fsl_text.specs.declared.memory.Memory.{Memory}
use Rattle.fsl_blobs.specs.declared.Placed.{Placed}
use Rattle.fsl_blobs.specs.declared.Holding.{Holding}
use Rattle.fsl_blobs.specs.declared.blobs.HeldArtifact.{HeldArtifact}
use Rattle.fsl_record.specs.declared.Record.TheVariants as record_of
use Rattle.fsl_blobs.specs.Fold.{Held, contents, is_new, is_blob_of, adds, place}
use Rattle.fsl_blobs.specs.Held.{matching, found}
use Rattle.fsl_blobs.specs.Seen.{Seen, held_as}
use Rattle.fsl_blobs.proofs.KeptLemmas.{turned}
use Rattle.fsl_blobs.specs.Kept.{is_same, held_at, artifact_of}
use Rattle.fsl_blobs.specs.Listing.{begins, pair_of, place_of, entry_of}

-- ---- several names that pass a test

pub several : (p : List ℕ → Bool) (keys before left rest : List (List ℕ)) (first : Option (List ℕ)) (name : List ℕ) → keys ≡ before ++ left → left ≡ name ∷ rest
    → filter p before ≡ option_to_list first → is_some first ≡ true → p name ≡ true → Several ≡ found (filter p keys)
several p keys before left rest None name split next seen some passes = cc
several p keys before left rest (Some first) name split next seen some passes =
    sym (ap (λ (ks : List (List ℕ)). found (filter p ks)) (split ∙ ap (λ (ks : List (List ℕ)). before ++ ks) next)
    ∙ ap found (filter-append p before (name ∷ rest)) ∙ (λ i. found (seen i ++ cond (passes i) (name ∷ filter p rest) (filter p rest))))

-- ---- the held names

abbrev pub keys_in : List (List ℕ × HeldArtifact) → List (List ℕ)
keys_in es = map (λ e. e.0) es

-- the entries without their places
abbrev bare : List (List ℕ × HeldArtifact) → List (List ℕ × Held)
bare es = map entry_of es

both : (a b : Bool) → T a → T b → T (a && b)
both true b p q = q
both false b p q = p

all_above : (name : List ℕ) (es : List (List ℕ × HeldArtifact)) → AllByRecursion (λ q. bytes_cmp name q ≡ Less) (keys_in es) → T (below_all bytes_cmp name (bare es))
all_above name [] h = tt
all_above name (e ∷ es) h = both (is_lt (bytes_cmp name e.0)) (below_all bytes_cmp name (bare es)) (subst (λ (o : Ordering). T (is_lt o)) (sym h.0) tt) (all_above name es h.1)

rising : (es : List (List ℕ × HeldArtifact)) → IsStrictlySortedBy bytes_cmp (keys_in es) → T (is_sorted bytes_cmp (bare es))
unfolding IsStrictlySortedBy
rising [] h = tt
rising (e ∷ es) h = both (below_all bytes_cmp e.0 (bare es)) (is_sorted bytes_cmp (bare es)) (all_above e.0 es h.0) (rising es h.1)

pub find-bare : (q : List ℕ) (es : List (List ℕ × HeldArtifact)) → find bytes_cmp q (bare es) ≡ option_map artifact_of (held_at es q)
find-bare q [] = refl
find-bare q (e ∷ es) =
    elim (is_same q e.0) as (λ b. cond b (Some (artifact_of e.1)) (find bytes_cmp q (bare es)) ≡ option_map artifact_of (cond b (Some e.1) (held_at es q))) [ true ↦ refl | false ↦ find-bare q es ]

keys-bare : (es : List (List ℕ × HeldArtifact)) → map (λ e. e.0) (bare es) ≡ keys_in es
keys-bare [] = refl
keys-bare (e ∷ es) = ap (λ (ks : List (List ℕ)). e.0 ∷ ks) (keys-bare es)

module _ (records : List Record) (es : List (List ℕ × HeldArtifact)) (held : (name : List ℕ) → option_map artifact_of (held_at es name) ≡ map_of.get (contents records).held name) (rise : IsStrictlySortedBy bytes_cmp (keys_in es)) where
  entries-held : map_of.entries (contents records).held ≡ bare es
  entries-held =
      let set = (contents records).held in
      same_entries bytes_cmp bytes_cmp-IsTotalOrder bytes_cmp-IsAntisymmetric (map_of.entries set) (bare es) (map_of.entries_sorted set) (rising es rise)
      (λ q. sym (map_of.get-entries set q) ∙ sym (held q) ∙ sym (find-bare q es))

  pub keys-held : keys_in es ≡ map_of.keys (contents records).held
  keys-held = sym (keys-bare es) ∙ ap (map (λ e. e.0)) (sym entries-held)

  pub bare-held : (b : Seen) → records ≡ b.records → bare es ≡ map_of.entries (contents b.records).held
  bare-held b view = sym entries-held ∙ ap (λ (rs : List Record). map_of.entries (contents rs).held) view

  pub count-held : (b : Seen) → records ≡ b.records → length es ≡ map_of.len (contents b.records).held
  count-held b view = sym (length-map es entry_of) ∙ ap length (bare-held b view) ∙ sym (map_of.len-entries (contents b.records).held)

  pub matching-held : (b : Seen) (prefix : List ℕ) → records ≡ b.records → found (filter (begins prefix) (keys_in es)) ≡ found (matching (contents b.records).held prefix)
  matching-held b prefix view = ap (λ (ks : List (List ℕ)). found (filter (begins prefix) ks)) keys-held ∙ ap (λ (rs : List Record). found (matching (contents rs).held prefix)) view

-- what is lent is what another list has
pub lent : (es fs : List (List ℕ × Held)) (r : Result (Vec Holding Global) Memory) → IfOk r (λ list. map held_as list.items ≡ es) → es ≡ fs → IfOk r (λ list. map held_as list.items ≡ fs)
lent es fs (Ok list) h e = h ∙ e
lent es fs (Err x) h e = tt

-- ---- places

-- what adds an artifact is a blob of its name
adds-blob : (records : List Record) (name : List ℕ) (n : ℕ) → adds records name n ≡ true → option_map_or (is_blob_of name) (slice_get records (n - 1)) false ≡ true
adds-blob records name n e = (and_parts (option_map_or (is_blob_of name) (slice_get records (n - 1)) false) (is_new (contents (take (n - 1) records)) name) e).0

filter-passes : (p : ℕ → Bool) (xs : List ℕ) → AllByRecursion (λ x. p x ≡ true) (filter p xs)
filter-passes p [] = tt
filter-passes p (x ∷ xs) =
    elim (p x) as (λ b. p x ≡ b → AllByRecursion (λ y. p y ≡ true) (cond b (x ∷ filter p xs) (filter p xs))) [ true ↦ λ e. (e, filter-passes p xs) | false ↦ λ _. filter-passes p xs ] refl

greatest-passes : (p : ℕ → Bool) (xs : List ℕ) (m : ℕ) → AllByRecursion (λ x. p x ≡ true) xs → greatest nat_cmp xs ≡ Some m → p m ≡ true
greatest-passes p [] m all e = cc
greatest-passes p (x ∷ xs) m all e =
    elim (greatest nat_cmp xs) as (λ o. greatest nat_cmp xs ≡ o → greater nat_cmp (Some x) o ≡ Some m → p m ≡ true) [
      | None ↦ λ _ r. subst (λ (k : ℕ). p k ≡ true) (inside x r) all.0
      | Some n ↦ λ some r.
          elim (is_lt (nat_cmp x n)) as (λ b. Some (cond b n x) ≡ Some m → p m ≡ true) [
            | true ↦ λ r. subst (λ (k : ℕ). p k ≡ true) (inside n r) (greatest-passes p xs n all.1 some)
            | false ↦ λ r. subst (λ (k : ℕ). p k ≡ true) (inside x r) all.0
          ] r
    ] refl e
  where
    inside : (k : ℕ) → Some k ≡ Some m → k ≡ m
    inside k e = cc

pub place-blob : (records : List Record) (name : List ℕ) (n : ℕ) → place records name ≡ Some n → option_map_or (is_blob_of name) (slice_get records (n - 1)) false ≡ true
place-blob records name n e = adds-blob records name n (greatest-passes (adds records name) (filter (adds records name) (range_with_len 1 (length records))) n (filter-passes (adds records name) (range_with_len 1 (length records))) e)

one_name : (r : Record) (a b : List ℕ) → is_blob_of a r ≡ true → is_blob_of b r ≡ true → a ≡ b
one_name (record_of.Blob private name receipt bytes) a b p q = sym ((bytes_decides name a).0 p) ∙ (bytes_decides name b).0 q
one_name (record_of.Config c) a b p q = cc
one_name (record_of.Publish name) a b p q = cc
one_name (record_of.Shun name) a b p q = cc
one_name (record_of.Unshun name) a b p q = cc

pub one_place : (o : Option Record) (a b : List ℕ) → option_map_or (is_blob_of a) o false ≡ true → option_map_or (is_blob_of b) o false ≡ true → a ≡ b
one_place None a b p q = cc
one_place (Some r) a b p q = one_name r a b p q

-- two names don't have one place
apart : (records : List Record) (a b : List ℕ) (m n : ℕ) → place records a ≡ Some m → place records b ≡ Some n → bytes_cmp a b ≡ Less → eq_by_cmp nat_cmp m n ≡ false
apart records a b m n p q below =
    elim (eq_by_cmp nat_cmp m n) as (λ t. eq_by_cmp nat_cmp m n ≡ t → t ≡ false) [
      | true ↦ λ e.
          let at : m ≡ n = tied m n e in
          let same : a ≡ b = one_place (slice_get records (n - 1)) a b (place-blob records a n (p ∙ ap Some at)) (place-blob records b n q) in
          absurd (no (sym (ap is_eq (tied_itself bytes_cmp-IsTotalOrder b)) ∙ ap (λ (x : List ℕ). is_eq (bytes_cmp x b)) (sym same) ∙ ap is_eq below))
      | false ↦ λ _. refl
    ] refl
  where
    no : true ≡ false → ⊥
    no e = cc

    tied : (m n : ℕ) → eq_by_cmp nat_cmp m n ≡ true → m ≡ n
    tied m n e = eqb-true m n (sym (unsigned_tied m n) ∙ e)

abbrev pub ArePlaced : List Record → List (List ℕ × HeldArtifact) → Type 0
ArePlaced records es = AllByRecursion (λ e. place records e.0 ≡ Some e.1.place) es

apart_all : (records : List Record) (a : List ℕ) (m : ℕ) → place records a ≡ Some m → (es : List (List ℕ × HeldArtifact)) → ArePlaced records es → AllByRecursion (λ q. bytes_cmp a q ≡ Less) (keys_in es)
    → AllByRecursion (λ n. eq_by_cmp nat_cmp m n ≡ false) (map (λ p. p.0) (map place_of es))
apart_all records a m p [] placed h = tt
apart_all records a m p (e ∷ es) placed h = (apart records a e.0 m e.1.place p placed.0 h.0, apart_all records a m p es placed.1 h.1)

pub distinct_places : (records : List Record) (es : List (List ℕ × HeldArtifact)) → ArePlaced records es → IsStrictlySortedBy bytes_cmp (keys_in es) → IsDistinct (eq_by_cmp nat_cmp) (map (λ p. p.0) (map place_of es))
unfolding IsStrictlySortedBy IsDistinct
distinct_places records [] placed h = tt
distinct_places records (e ∷ es) placed h = (apart_all records e.0 e.1.place placed.0 es placed.1 h.0, distinct_places records es placed.1 h.1)

-- the places of the held names are those that the code keeps
pub places_are : (records : List Record) (es : List (List ℕ × HeldArtifact)) → ArePlaced records es → map place_of es ≡ filter_map (λ name. option_map (λ n. (n, name)) (place records name)) (keys_in es)
places_are records [] placed = refl
places_are records (e ∷ es) placed =
    ap (λ (ps : List (ℕ × List ℕ)). place_of e ∷ ps) (places_are records es placed.1)
    ∙ ap (λ (o : Option ℕ). cons_option (option_map (λ n. (n, e.0)) o) (filter_map (λ name. option_map (λ n. (n, name)) (place records name)) (keys_in es))) (sym placed.0)

pub by_recursion : {X : Type 0} (P : X → Type 0) (xs : List X) → All P xs → AllByRecursion P xs
by_recursion P [] h = tt
by_recursion P (x ∷ xs) h = (h 0 x (omega arith), by_recursion P xs (λ k d lt. h (suc k) d (omega arith)))

pub are_placed : (records : List Record) (es : List (List ℕ × HeldArtifact)) → ((name : List ℕ) → IfSome (held_at es name) (λ a. place records name ≡ Some a.place)) → All (λ e. held_at es e.0 ≡ Some e.1) es → ArePlaced records es
are_placed records es places all =
    by_recursion (λ e. place records e.0 ≡ Some e.1.place) es
    (All-weaker (λ e. held_at es e.0 ≡ Some e.1) (λ e. place records e.0 ≡ Some e.1.place) (λ e at. subst (λ (o : Option HeldArtifact). IfSome o (λ a. place records e.0 ≡ Some a.place)) at (places e.0)) es all)

-- a held name is among the places
pub any_placed : (q : List ℕ) (es : List (List ℕ × HeldArtifact)) → list_any (λ p. bytes_eq p.1 q) (map place_of es) ≡ is_some (held_at es q)
any_placed q [] = refl
any_placed q (e ∷ es) =
    ap (λ (b : Bool). b || list_any (λ p. bytes_eq p.1 q) (map place_of es)) (texts_ties e.0 q ∙ turned e.0 q)
    ∙ elim (is_same q e.0) as (λ b. (b || list_any (λ p. bytes_eq p.1 q) (map place_of es)) ≡ is_some (cond b (Some e.1) (held_at es q))) [ true ↦ refl | false ↦ any_placed q es ]

pub all_from_zero : (ps : List (ℕ × List ℕ)) → filter (λ p. nat_le 0 p.0) ps ≡ ps
all_from_zero [] = refl
all_from_zero (p ∷ ps) =
    ap (λ (b : Bool). cond b (p ∷ filter (λ p. nat_le 0 p.0) ps) (filter (λ p. nat_le 0 p.0) ps)) (le-leb 0 p.0 (omega arith))
    ∙ ap (λ (rest : List (ℕ × List ℕ)). p ∷ rest) (all_from_zero ps)

pub some_map : (o : Option HeldArtifact) → is_some o ≡ is_some (option_map artifact_of o)
some_map None = refl
some_map (Some a) = refl

-- ---- the sorted list

abbrev pub places_in : List Placed → List ℕ
places_in names = map (λ p. p.0) (map pair_of names)

pub rise_from_sort : (names : List Placed) → IsNonDecreasingBy (λ p. p.place) names → IsNonDecreasing (places_in names)
rise_from_sort names h = IsNonDecreasingBy-from_default (λ n. n) (places_in names) 0 (λ i j low high. below i j low high)
  where
    nowhere : Placed
    nowhere = record { place = 0; name = [] }

    at : (ns : List Placed) (i : ℕ) → get_or (places_in ns) i 0 ≡ (get_or ns i nowhere).place
    at [] i = refl
    at (n ∷ ns) zero = refl
    at (n ∷ ns) (suc i) = at ns i

    count : (ns : List Placed) → length (places_in ns) ≡ length ns
    count [] = refl
    count (n ∷ ns) = ap suc (count ns)

    below : (i j : ℕ) → i ≤ j → j < length (places_in names) → get_or (places_in names) i 0 ≤ get_or (places_in names) j 0
    below i j low high =
        let within : j < length names = subst (λ (k : ℕ). j < k) (count names) high in
        let order : (get_or names i nowhere).place ≤ (get_or names j nowhere).place = h i j nowhere low within in
        subst (λ (k : ℕ). k ≤ get_or (places_in names) j 0) (sym (at names i)) (subst (λ (k : ℕ). (get_or names i nowhere).place ≤ k) (sym (at names j)) order)
