-- What is read of records, and which items held artifacts are by it.
use Rattle.std.proofs.Common.{◌≡◌, ℕ, ◌+◌, ◌-◌, ◌<◌, zero, suc, nat_eq, Bool, true, false, List, [], ◌∷◌, ◌++◌, length, map, take, drop, get_or, Option, Some, None, refl, sym, ap, subst, ◌∙◌, arith}
use Rattle.std.specs.Prelude.{slice_get}
use Rattle.std.specs.List.{AllZip, AllByRecursion, IsDistinct}
use Rattle.std.specs.List.Sorted.{IsStrictlySortedBy}
use Rattle.std.specs.declared.cmp.Ordering.{Ordering}
use Rattle.std.specs.declared.cmp.Ordering.TheVariants.{Less, Equal, Greater}
use Rattle.std.specs.Ordering.{ordering_reverse}
use Rattle.std.proofs.Math.ListN.{set}
use Rattle.std.proofs.lemmas.Map.Keys.{IsDistinct-head, IsDistinct-tail, IsDistinct-cons}
use Rattle.std.proofs.lemmas.Bool.{eqb-true}
use Rattle.std.proofs.Math.Dec.{eqb-suc-suc}
use Rattle.fsl_order.specs.Names.{bytes_cmp}
use Rattle.fsl_order.proofs.Orders.{bytes_cmp-IsTotalOrder}
use Rattle.fsl_record.specs.Receipts.{Brought}
use Rattle.fsl_record.specs.declared.Record.{Record}
use Rattle.fsl_record.specs.declared.Record.TheVariants as record_of
use Rattle.fsl_artifact.specs.declared.Artifact.{Artifact}
use Rattle.fsl_artifact.specs.Kind.{IsKind}
use Rattle.fsl_blobs.specs.Fold.{Held}
use Rattle.fsl_blobs.specs.Seen.{held_as, IsHolding}
use Rattle.fsl_blobs.specs.declared.Holding.{Holding}
use Rattle.fsl_cross.specs.declared.Item.{Item}
use Rattle.fsl_repo.specs.Machine.{IsItemOf}
use Rattle.fsl_repo.specs.Opening.{IsReadOf, IsReadAt}
use Rattle.std.proofs.lemmas.List.{take_more}
use Rattle.fsl_repo.proofs.Zipped.{AllZip-push}
use Rattle.fsl_repo.proofs.ItemLemmas.{item_more}
use Rattle.fsl_repo.proofs.Loops.{rest_is}

-- ---- what was read of a blob

some_is : {X : Type 0} (a b : X) → Some a ≡ Some b → a ≡ b
some_is {X} a b h = ap (λ (o : Option X). from o) h
  where
    from : Option X → X
    from None = a
    from (Some x) = x

read_of : (bytes : List ℕ) (private : Bool) (name : List ℕ) (receipt : Option Brought) (o : Option Artifact) → IsReadOf (record_of.Blob private name receipt bytes) o → (a : Artifact) × (o ≡ Some a) × IsKind bytes a
read_of bytes private name receipt (Some a) kind = (a, refl, kind)
read_of bytes private name receipt None kind = absurd kind

read_at : (entries : List Record) (found : List (Option Artifact)) → AllZip IsReadOf entries found → (k : ℕ) (private : Bool) (name : List ℕ) (receipt : Option Brought) (bytes : List ℕ)
    → slice_get entries k ≡ Some (record_of.Blob private name receipt bytes) → (a : Artifact) × (slice_get found k ≡ Some (Some a)) × IsKind bytes a
read_at [] found all k private name receipt bytes is = absurd cc
read_at (e ∷ es) [] all k private name receipt bytes is = absurd all
read_at (e ∷ es) (o ∷ os) all zero private name receipt bytes is =
    let blob : e ≡ record_of.Blob private name receipt bytes = some_is e (record_of.Blob private name receipt bytes) is in
    let read = read_of bytes private name receipt o (subst (λ (r : Record). IsReadOf r o) blob all.0) in
    (read.0, ap Some read.1, read.2)
read_at (e ∷ es) (o ∷ os) all (suc k) private name receipt bytes is = read_at es os all.1 k private name receipt bytes is

-- of each held artifact it is known what was read of its record
pub read_each : (entries : List Record) (found : List (Option Artifact)) → AllZip IsReadOf entries found → (held : List Holding) → AllByRecursion (IsHolding entries) held → AllByRecursion (IsReadAt found) held
read_each entries found all [] from = tt
read_each entries found all (h ∷ held) from =
    (read_at entries found all (h.place - 1) from.0.blob.0 h.name from.0.blob.1 h.bytes.now.value from.0.blob.2, read_each entries found all held from.1)

-- what was read of one record more
pub read_more : (entries : List Record) (i : ℕ) (entry : Record) (found more : List (Option Artifact)) (o : Option Artifact) → i < length entries → entry ≡ get_or entries i entry
    → AllZip IsReadOf (take i entries) found → IsReadOf entry o → more ≡ found ++ o ∷ [] → AllZip IsReadOf (take (i + 1) entries) more
read_more entries i entry found more o lt is each read grown =
    let next : take (i + 1) entries ≡ take i entries ++ entry ∷ [] = take_more entries i entry lt ∙ ap (λ (x : Record). take i entries ++ x ∷ []) (sym is) in
    subst (λ (es : List Record). AllZip IsReadOf es more) (sym next)
    (subst (λ (os : List (Option Artifact)). AllZip IsReadOf (take i entries ++ entry ∷ []) os) (sym grown) (AllZip-push IsReadOf (take i entries) found entry o each read))

-- ---- no two are of one record

abbrev name_in : Option Record → List ℕ
name_in (Some (record_of.Blob private name receipt bytes)) = name
name_in o = []

not_below : (o : Ordering) → o ≡ ordering_reverse o → o ≡ Less → ⊥
not_below Less h is = absurd cc
not_below Equal h is = absurd cc
not_below Greater h is = absurd cc

apart : (entries : List Record) (g h : Holding) → IsHolding entries g → IsHolding entries h → bytes_cmp g.name h.name ≡ Less → nat_eq (g.place - 1) (h.place - 1) ≡ false
apart entries g h of_g of_h below = by (nat_eq (g.place - 1) (h.place - 1)) refl
  where
    by : (b : Bool) → nat_eq (g.place - 1) (h.place - 1) ≡ b → b ≡ false
    by false e = refl
    by true e =
        let same : g.place - 1 ≡ h.place - 1 = eqb-true (g.place - 1) (h.place - 1) e in
        let names : g.name ≡ h.name = ap name_in (sym of_g.blob.2 ∙ ap (slice_get entries) same ∙ of_h.blob.2) in
        absurd (not_below (bytes_cmp h.name h.name) (bytes_cmp-IsTotalOrder.antisymm h.name h.name) (ap (λ (n : List ℕ). bytes_cmp n h.name) (sym names) ∙ below))

all_apart : (entries : List Record) (g : Holding) → IsHolding entries g → (held : List Holding) → AllByRecursion (IsHolding entries) held → AllByRecursion (λ q. bytes_cmp g.name q ≡ Less) (map (λ e. e.0) (map held_as held))
    → AllByRecursion (λ k. nat_eq (g.place - 1) k ≡ false) (map (λ h. h.place - 1) held)
all_apart entries g of_g [] from below = tt
all_apart entries g of_g (h ∷ held) from below = (apart entries g h of_g from.0 below.0, all_apart entries g of_g held from.1 below.1)

pub places_apart : (entries : List Record) (held : List Holding) → AllByRecursion (IsHolding entries) held → IsStrictlySortedBy bytes_cmp (map (λ e. e.0) (map held_as held)) → IsDistinct nat_eq (map (λ h. h.place - 1) held)
unfolding IsStrictlySortedBy IsDistinct
places_apart entries [] from rise = tt
places_apart entries (h ∷ held) from rise = (all_apart entries h from.0 held from.1 rise.0, places_apart entries held from.1 rise.1)

-- ---- one is taken

get_other : {X : Type 0} (xs : List X) (j k : ℕ) (y : X) → nat_eq j k ≡ false → slice_get (set xs j y) k ≡ slice_get xs k
get_other [] j k y h = refl
get_other (x ∷ xs) zero zero y h = absurd cc
get_other (x ∷ xs) zero (suc k) y h = refl
get_other (x ∷ xs) (suc j) zero y h = refl
get_other (x ∷ xs) (suc j) (suc k) y h = get_other xs j k y (sym (eqb-suc-suc j k) ∙ h)

still_read : (left : List (Option Artifact)) (j : ℕ) (held : List Holding) → AllByRecursion (λ k. nat_eq j k ≡ false) (map (λ h. h.place - 1) held) → AllByRecursion (IsReadAt left) held → AllByRecursion (IsReadAt (set left j None)) held
still_read left j [] other all = tt
still_read left j (h ∷ held) other all = ((all.0.0, get_other left j (h.place - 1) None other.0 ∙ all.0.1, all.0.2), still_read left j held other.1 all.1)

-- what holds between two turns: those before are items, and what was read of the others is still there
pub record IsUnderway (held : List Holding) (i : ℕ) (left : List (Option Artifact)) (items : List Item) : Type 0 where
  pub done : AllZip IsItemOf (map held_as (take i held)) items
  pub there : AllByRecursion (IsReadAt left) (drop i held)
  pub apart : IsDistinct nat_eq (map (λ h. h.place - 1) (drop i held))

pub first_read : (held : List Holding) (i : ℕ) (holding : Holding) (left : List (Option Artifact)) (items : List Item) → i < length held → holding ≡ get_or held i holding → IsUnderway held i left items → IsReadAt left holding
first_read held i holding left items lt is under =
    let both : AllByRecursion (IsReadAt left) (holding ∷ drop (i + 1) held) = subst (AllByRecursion (IsReadAt left)) (rest_is held i holding lt is) under.there in both.0

pub one_taken : (held : List Holding) (i : ℕ) (holding : Holding) (left left2 : List (Option Artifact)) (items more : List Item) (a : Artifact) → i < length held → holding ≡ get_or held i holding → IsUnderway held i left items
    → slice_get left (holding.place - 1) ≡ Some (Some a) → left2 ≡ set left (holding.place - 1) None → more ≡ items ++ record { name = holding.name; private = holding.private; artifact = a } ∷ [] → IsUnderway held (i + 1) left2 more
one_taken held i holding left left2 items more a lt is under taken gone grown =
    let rest : drop i held ≡ holding ∷ drop (i + 1) held = rest_is held i holding lt is in
    let there : AllByRecursion (IsReadAt left) (holding ∷ drop (i + 1) held) = subst (AllByRecursion (IsReadAt left)) rest under.there in
    let apart : IsDistinct nat_eq (map (λ h. h.place - 1) (holding ∷ drop (i + 1) held)) = subst (λ (hs : List Holding). IsDistinct nat_eq (map (λ h. h.place - 1) hs)) rest under.apart in
    let same : there.0.0 ≡ a = some_is there.0.0 a (some_is (Some there.0.0) (Some a) (sym there.0.1 ∙ taken)) in
    let item : Item = record { name = holding.name; private = holding.private; artifact = a } in
    let kind : IsKind holding.bytes.now.value a = subst (IsKind holding.bytes.now.value) same there.0.2 in record {
      done = item_more held i holding items more item lt is under.done (record { name = refl; private = refl; kind = kind }) grown;
      there = subst (λ (l : List (Option Artifact)). AllByRecursion (IsReadAt l) (drop (i + 1) held)) (sym gone)
          (still_read left (holding.place - 1) (drop (i + 1) held) (IsDistinct-head nat_eq (holding.place - 1) (map (λ h. h.place - 1) (drop (i + 1) held)) apart) there.1);
      apart = IsDistinct-tail nat_eq (holding.place - 1) (map (λ h. h.place - 1) (drop (i + 1) held)) apart;
    }
