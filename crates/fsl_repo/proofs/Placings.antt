-- The held names by their places, and those from a place on.
use Rattle.std.proofs.Common.{◌≡◌, ℕ, ◌-◌, ◌+◌, Bool, true, false, cond, not, List, [], ◌∷◌, ◌++◌, length, take, map, filter, Option, Some, None, refl, sym, ap, subst, ◌∙◌, append_assoc, arith}
use Rattle.std.specs.Prelude.{◌&&◌, ◌||◌, is_some, nat_le, filter_map, slice_get}
use Rattle.std.specs.Option.{option_map, option_map_or}
use Rattle.std.specs.List.{AllByRecursion, IsDistinct, range_with_len, cons_option, list_any}
use Rattle.std.specs.List.Sorted.{IsStrictlySortedBy}
use Rattle.std.specs.Str.{bytes_eq}
use Rattle.std.specs.Cmp.{nat_cmp_total, unsigned_tied, tied_itself}
use Rattle.std.specs.Cmp.Lexicographic.{bytes_decides, texts_ties}
use Rattle.std.specs.declared.cmp.Ordering.TheVariants.{Less}
use Rattle.std.specs.Ordering.{is_eq, is_lt, nat_cmp, eq_by_cmp}
use Rattle.std.specs.FinMap as map_of
use Rattle.std.specs.FinMap.{find}
use Rattle.std.proofs.lemmas.Bool.{and_parts, eqb-true, le-leb, and_right}
use Rattle.std.proofs.lemmas.List.{append-nil}
use Rattle.std.proofs.lemmas.List.Sorted.{list_any-IsPermutation}
use Rattle.fsl_order.specs.Names.{bytes_cmp}
use Rattle.fsl_order.specs.Rows.{greater, greatest, in_order}
use Rattle.fsl_order.proofs.Orders.{bytes_cmp-IsTotalOrder}
use Rattle.fsl_order.proofs.Gathered.{in_order-filter}
use Rattle.fsl_order.proofs.MovedLemmas.{IsPermutation-in_order}
use Rattle.fsl_record.specs.Receipts.{Brought}
use Rattle.fsl_record.specs.declared.Record.{Record}
use Rattle.fsl_record.specs.declared.Record.TheVariants as record_of
use Rattle.fsl_blobs.specs.Fold.{Held, Contents, contents, after, is_new, is_blob_of, adds, place, held_from}
use Rattle.fsl_blobs.specs.Kept.{is_same}
use Rattle.fsl_blobs.proofs.KeptLemmas.{is_same-means, shown, blob-get, publish-get, shun-get}
use Rattle.fsl_blobs.proofs.Places.{contents_push, place_push}
use Rattle.fsl_answer.specs.Contents as reply
use Rattle.fsl_repo.specs.Replies.{held_at, placed_in}
use Rattle.fsl_repo.specs.Sending.{placed_from, public_on}
use Rattle.fsl_repo.proofs.ItemLemmas.{names_rise}

-- ---- two names don't have one place

filter-passes : (p : ℕ → Bool) (xs : List ℕ) → AllByRecursion (λ x. p x ≡ true) (filter p xs)
filter-passes p [] = tt
filter-passes p (x ∷ xs) =
    elim (p x) as (λ b. p x ≡ b → AllByRecursion (λ y. p y ≡ true) (cond b (x ∷ filter p xs) (filter p xs))) [ true ↦ λ e. (e, filter-passes p xs) | false ↦ λ _. filter-passes p xs ] refl

greatest-passes : (p : ℕ → Bool) (xs : List ℕ) (m : ℕ) → AllByRecursion (λ x. p x ≡ true) xs → greatest nat_cmp xs ≡ Some m → p m ≡ true
greatest-passes p [] m all e = cc
greatest-passes p (x ∷ xs) m all e =
    elim (greatest nat_cmp xs) as (λ o. greatest nat_cmp xs ≡ o → greater nat_cmp (Some x) o ≡ Some m → p m ≡ true) [
      | None ↦ λ _ r. subst (λ (k : ℕ). p k ≡ true) (inside x r) all.0
      | Some n ↦ λ some r.
          elim (is_lt (nat_cmp x n)) as (λ b. Some (cond b n x) ≡ Some m → p m ≡ true) [
            | true ↦ λ r. subst (λ (k : ℕ). p k ≡ true) (inside n r) (greatest-passes p xs n all.1 some)
            | false ↦ λ r. subst (λ (k : ℕ). p k ≡ true) (inside x r) all.0
          ] r
    ] refl e
  where
    inside : (k : ℕ) → Some k ≡ Some m → k ≡ m
    inside k e = cc

-- what is at the place of a name is a blob of the name
place-blob : (records : List Record) (name : List ℕ) (n : ℕ) → place records name ≡ Some n → option_map_or (is_blob_of name) (slice_get records (n - 1)) false ≡ true
place-blob records name n e =
    (and_parts (option_map_or (is_blob_of name) (slice_get records (n - 1)) false) (is_new (contents (take (n - 1) records)) name)
    (greatest-passes (adds records name) (filter (adds records name) (range_with_len 1 (length records))) n (filter-passes (adds records name) (range_with_len 1 (length records))) e)).0

one_name : (r : Record) (a b : List ℕ) → is_blob_of a r ≡ true → is_blob_of b r ≡ true → a ≡ b
one_name (record_of.Blob private name receipt bytes) a b p q = sym ((bytes_decides name a).0 p) ∙ (bytes_decides name b).0 q
one_name (record_of.Config c) a b p q = cc
one_name (record_of.Publish name) a b p q = cc
one_name (record_of.Shun name) a b p q = cc
one_name (record_of.Unshun name) a b p q = cc

one_place : (o : Option Record) (a b : List ℕ) → option_map_or (is_blob_of a) o false ≡ true → option_map_or (is_blob_of b) o false ≡ true → a ≡ b
one_place None a b p q = cc
one_place (Some r) a b p q = one_name r a b p q

apart : (records : List Record) (a b : List ℕ) (m n : ℕ) → place records a ≡ Some m → place records b ≡ Some n → bytes_cmp a b ≡ Less → eq_by_cmp nat_cmp m n ≡ false
apart records a b m n p q below =
    elim (eq_by_cmp nat_cmp m n) as (λ t. eq_by_cmp nat_cmp m n ≡ t → t ≡ false) [
      | true ↦ λ e.
          let at : m ≡ n = eqb-true m n (sym (unsigned_tied m n) ∙ e) in
          let same : a ≡ b = one_place (slice_get records (n - 1)) a b (place-blob records a n (p ∙ ap Some at)) (place-blob records b n q) in
          absurd (no (sym (ap is_eq (tied_itself bytes_cmp-IsTotalOrder b)) ∙ ap (λ (x : List ℕ). is_eq (bytes_cmp x b)) (sym same) ∙ ap is_eq below))
      | false ↦ λ _. refl
    ] refl
  where
    no : true ≡ false → ⊥
    no e = cc

-- ---- the names with their places

module _ (records : List Record) where
  abbrev with_place : List ℕ → Option (ℕ × List ℕ)
  with_place name = option_map (λ n. (n, name)) (place records name)

  abbrev beside : Option ℕ → List ℕ → Option (ℕ × List ℕ)
  beside o name = option_map (λ n. (n, name)) o

  abbrev numbers : List (ℕ × List ℕ) → List ℕ
  numbers ps = map (λ p. p.0) ps

  away : (a : List ℕ) (m : ℕ) → place records a ≡ Some m → (names : List (List ℕ)) → AllByRecursion (λ q. bytes_cmp a q ≡ Less) names → AllByRecursion (λ n. eq_by_cmp nat_cmp m n ≡ false) (numbers (filter_map with_place names))
  away a m at [] h = tt
  away a m at (q ∷ names) h =
      elim (place records q) as (λ o. place records q ≡ o → AllByRecursion (λ n. eq_by_cmp nat_cmp m n ≡ false) (numbers (cons_option (beside o q) (filter_map with_place names)))) [
        | None ↦ λ _. away a m at names h.1
        | Some n ↦ λ e. (apart records a q m n at e h.0, away a m at names h.1)
      ] refl

  differ : (names : List (List ℕ)) → IsStrictlySortedBy bytes_cmp names → IsDistinct (eq_by_cmp nat_cmp) (numbers (filter_map with_place names))
  unfolding IsStrictlySortedBy IsDistinct
  differ [] h = tt
  differ (a ∷ names) h =
      elim (place records a) as (λ o. place records a ≡ o → IsDistinct (eq_by_cmp nat_cmp) (numbers (cons_option (beside o a) (filter_map with_place names)))) [
        | None ↦ λ _. differ names h.1
        | Some m ↦ λ e. (away a m e names h.0, differ names h.1)
      ] refl

  abbrev all : List (ℕ × List ℕ)
  all = filter_map with_place (map_of.keys (contents records).held)

  all_differ : IsDistinct (eq_by_cmp nat_cmp) (numbers all)
  all_differ = differ (map_of.keys (contents records).held) (names_rise (map_of.entries (contents records).held) (map_of.entries_sorted (contents records).held))

  from_zero : (ps : List (ℕ × List ℕ)) → filter (λ p. nat_le 0 p.0) ps ≡ ps
  from_zero [] = refl
  from_zero (p ∷ ps) =
      ap (λ (b : Bool). cond b (p ∷ filter (λ p. nat_le 0 p.0) ps) (filter (λ p. nat_le 0 p.0) ps)) (le-leb 0 p.0 (omega arith))
      ∙ ap (λ (rest : List (ℕ × List ℕ)). p ∷ rest) (from_zero ps)

  abbrev sorted : List (ℕ × List ℕ) → List (ℕ × List ℕ)
  sorted ps = in_order nat_cmp (λ p. p.0) ps

  -- those from a place on are those of all
  pub held_later : (from : ℕ) → held_from records from ≡ filter (λ p. nat_le from p.0) (held_from records 0)
  held_later from =
      in_order-filter (λ p. nat_le from p.0) (λ p. p.0) nat_cmp nat_cmp_total all all_differ
      ∙ ap (λ (ps : List (ℕ × List ℕ)). filter (λ p. nat_le from p.0) (sorted ps)) (sym (from_zero all))

-- ---- a held name has a place

abbrev HasPlaces : List Record → Type 0
HasPlaces records = (q : List ℕ) → is_some (map_of.get (contents records).held q) ≡ true → is_some (place records q) ≡ true

module _ (records : List Record) (has : HasPlaces records) where
  later : (b : Bool) (q : List ℕ) → is_some (place records q) ≡ true → is_some (cond b (Some (length records + 1)) (place records q)) ≡ true
  later true q h = refl
  later false q h = h

  same_still : (r : Record) (q : List ℕ) → is_some (map_of.get (contents records).held q) ≡ true → is_some (place (records ++ r ∷ []) q) ≡ true
  same_still r q h = ap is_some (place_push records r q) ∙ later (is_blob_of q r && is_new (contents records) q) q (has q h)

  abbrev c : Contents
  c = contents records

  some_of_map : {X Y : Type 0} (f : X → Y) (o : Option X) → is_some (option_map f o) ≡ true → is_some o ≡ true
  some_of_map f None h = cc
  some_of_map f (Some x) h = refl

  some_of_less : (b : Bool) (o : Option Held) → is_some (cond b None o) ≡ true → is_some o ≡ true
  some_of_less true o h = cc
  some_of_less false o h = h

  itself : (name : List ℕ) → bytes_eq name name ≡ true
  itself name = texts_ties name name ∙ ap is_eq (tied_itself bytes_cmp-IsTotalOrder name)

  blob_has : (private : Bool) (name : List ℕ) (receipt : Option Brought) (bytes q : List ℕ) (b : Bool) → (is_same name q && is_new c name) ≡ b
      → is_some (cond b (Some (record { private = private; bytes = bytes })) (map_of.get c.held q)) ≡ true → is_some (place (records ++ record_of.Blob private name receipt bytes ∷ []) q) ≡ true
  blob_has private name receipt bytes q true e h =
      let parts = and_parts (is_same name q) (is_new c name) e in
      let same : name ≡ q = is_same-means name q parts.0 in
      ap is_some (place_push records (record_of.Blob private name receipt bytes) q)
      ∙ ap (λ (x : List ℕ). is_some (cond (bytes_eq name x && is_new c x) (Some (length records + 1)) (place records x))) (sym same)
      ∙ (λ i. is_some (cond (itself name i && parts.1 i) (Some (length records + 1)) (place records name)))
  blob_has private name receipt bytes q false e h = same_still (record_of.Blob private name receipt bytes) q h

  push : (r : Record) → HasPlaces (records ++ r ∷ [])
  push r q h = by r (sym (ap (λ (x : Contents). is_some (map_of.get x.held q)) (contents_push records r)) ∙ h)
    where
      by : (r : Record) → is_some (map_of.get (after c r).held q) ≡ true → is_some (place (records ++ r ∷ []) q) ≡ true
      by (record_of.Config config) h = same_still (record_of.Config config) q h
      by (record_of.Blob private name receipt bytes) h = blob_has private name receipt bytes q (is_same name q && is_new c name) refl (sym (ap is_some (blob-get c name private receipt bytes q)) ∙ h)
      by (record_of.Publish name) h = same_still (record_of.Publish name) q (some_of_map (shown name q) (map_of.get c.held q) (sym (ap is_some (publish-get c name q)) ∙ h))
      by (record_of.Shun name) h = same_still (record_of.Shun name) q (some_of_less (is_same name q) (map_of.get c.held q) (sym (ap is_some (shun-get c name q)) ∙ h))
      by (record_of.Unshun name) h = same_still (record_of.Unshun name) q h

none_yet : HasPlaces []
none_yet q h = let none : map_of.get (contents []).held q ≡ None = map_of.get-empty bytes_cmp q in let no : is_some {T = Held} None ≡ true = sym (ap is_some none) ∙ h in cc

pushed : (rest front : List Record) → HasPlaces front → HasPlaces (front ++ rest)
pushed [] front h = subst HasPlaces (sym (append-nil front)) h
pushed (r ∷ rest) front h = subst HasPlaces (append_assoc front (r ∷ []) rest) (pushed rest (front ++ r ∷ []) (push front h r))

has_places : (records : List Record) → HasPlaces records
has_places records = pushed records [] none_yet

-- ---- and is among the placed names

module _ (records : List Record) (q : List ℕ) where
  abbrev is_it : ℕ × List ℕ → Bool
  is_it p = bytes_eq p.1 q

  abbrev among : List (List ℕ × Held) → List (ℕ × List ℕ)
  among es = filter_map (with_place records) (map (λ e. e.0) es)

  passed : (o : Option (ℕ × List ℕ)) (ps : List (ℕ × List ℕ)) → list_any is_it ps ≡ true → list_any is_it (cons_option o ps) ≡ true
  passed None ps h = h
  passed (Some p) ps h = either (is_it p) (list_any is_it ps) h
    where
      either : (a b : Bool) → b ≡ true → (a || b) ≡ true
      either true b h = refl
      either false b h = h

  placed_there : (o : Option ℕ) (name : List ℕ) (ps : List (ℕ × List ℕ)) → is_some o ≡ true → bytes_eq name q ≡ true → list_any is_it (cons_option (option_map (λ n. (n, name)) o) ps) ≡ true
  placed_there None name ps h same = cc
  placed_there (Some n) name ps h same = ap (λ (b : Bool). b || list_any is_it ps) same

  found : is_some (place records q) ≡ true → (es : List (List ℕ × Held)) → is_some (find bytes_cmp q es) ≡ true → list_any is_it (among es) ≡ true
  found has [] h = cc
  found has (e ∷ es) h =
      elim (is_eq (bytes_cmp q e.0)) as (λ b. is_eq (bytes_cmp q e.0) ≡ b → is_some (cond b (Some e.1) (find bytes_cmp q es)) ≡ true → list_any is_it (among (e ∷ es)) ≡ true) [
        | true ↦ λ tied _.
            let same : q ≡ e.0 = (bytes_decides q e.0).0 (texts_ties q e.0 ∙ tied) in
            placed_there (place records e.0) e.0 (among es) (subst (λ (x : List ℕ). is_some (place records x) ≡ true) same has)
            (subst (λ (x : List ℕ). bytes_eq x q ≡ true) same (texts_ties q q ∙ ap is_eq (tied_itself bytes_cmp-IsTotalOrder q)))
        | false ↦ λ _ h. passed (with_place records e.0) (among es) (found has es h)
      ] refl h

  pub all_held : map_of.contains_key (contents records).held q ≡ true → list_any is_it (held_from records 0) ≡ true
  all_held there =
      let ps = all records in
      sym (ap (λ (l : List (ℕ × List ℕ)). list_any is_it (sorted records l)) (sym (from_zero records ps))
      ∙ refl)
      ∙ sym (list_any-IsPermutation is_it ps (sorted records ps) (IsPermutation-in_order nat_cmp nat_cmp_total (λ p. p.0) ps (all_differ records)))
      ∙ found (has_places records q there) (map_of.entries (contents records).held) (sym (ap is_some (map_of.get-entries (contents records).held q)) ∙ there)

-- ---- the public artifacts from a place on

module _ {X Y : Type 0} (p : X → Bool) (f : X → Option Y) (g : Y → Bool) (out : (x : X) (y : Y) → f x ≡ Some y → p x ≡ false → g y ≡ false) where
  keep : (o : Option Y) (few many : List Y) → filter g few ≡ filter g many → filter g (cons_option o few) ≡ filter g (cons_option o many)
  keep None few many h = h
  keep (Some y) few many h = ap (λ (l : List Y). cond (g y) (y ∷ l) l) h

  skip : (x : X) → p x ≡ false → (o : Option Y) → f x ≡ o → (others : List Y) → filter g (cons_option o others) ≡ filter g others
  skip x fails None is others = refl
  skip x fails (Some y) is others = ap (λ (b : Bool). cond b (y ∷ filter g others) (filter g others)) (out x y is fails)

  pub tested_twice : (xs : List X) → filter g (filter_map f (filter p xs)) ≡ filter g (filter_map f xs)
  tested_twice [] = refl
  tested_twice (x ∷ xs) =
      elim (p x) as (λ b. p x ≡ b → filter g (filter_map f (cond b (x ∷ filter p xs) (filter p xs))) ≡ filter g (cons_option (f x) (filter_map f xs))) [
        | true ↦ λ _. keep (f x) (filter_map f (filter p xs)) (filter_map f xs) (tested_twice xs)
        | false ↦ λ e. tested_twice xs ∙ sym (skip x e (f x) refl (filter_map f xs))
      ] refl

module _ (records : List Record) (from : ℕ) where
  abbrev at : ℕ × List ℕ → Option reply.Held
  at p = option_map (held_at p) (map_of.get (contents records).held p.1)

  place_of : (p : ℕ × List ℕ) (o : Option Held) (h : reply.Held) → option_map (held_at p) o ≡ Some h → h.place ≡ p.0
  place_of p None h e = cc
  place_of p (Some a) h e = let same : held_at p a ≡ h = cc in ap (λ (x : reply.Held). x.place) (sym same)

  pub public_later : public_on from (placed_from records from) ≡ public_on from (placed_in records)
  public_later =
      let early : (p : ℕ × List ℕ) (h : reply.Held) → at p ≡ Some h → nat_le from p.0 ≡ false → (not h.private && nat_le from h.place) ≡ false =
      λ p h is before. and_right (not h.private) (nat_le from h.place) (ap (nat_le from) (place_of p (map_of.get (contents records).held p.1) h is) ∙ before) in
      ap (λ (ps : List (ℕ × List ℕ)). public_on from (filter_map at ps)) (held_later records from)
      ∙ tested_twice (λ p. nat_le from p.0) at (λ h. not h.private && nat_le from h.place) early (held_from records 0)
