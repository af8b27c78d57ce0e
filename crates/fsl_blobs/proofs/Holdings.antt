-- What is known of held artifacts.
use Rattle.std.proofs.Common.{◌≡◌, ℕ, ◌-◌, Bool, List, [], ◌∷◌, length, map, Option, Some, None, Result, Ok, Err, IfOk, refl, sym, ap, ◌∙◌, subst, eqb}
use Rattle.std.specs.Prelude.{IfSome, All, slice_get}
use Rattle.std.specs.List.{AllByRecursion, IsDistinct}
use Rattle.std.specs.List.Sorted.{IsStrictlySortedBy}
use Rattle.std.specs.Option.{option_map, option_map_or}
use Rattle.std.specs.Cmp.{unsigned_tied}
use Rattle.std.specs.Ordering.{nat_cmp, eq_by_cmp}
use Rattle.std.specs.FinMap as map_of
use Rattle.std.proofs.lemmas.List.Elements.{All-weaker}
use Rattle.fsl_order.specs.Names.{bytes_cmp}
use Rattle.fsl_record.specs.declared.Record.{Record}
use Rattle.fsl_blobs.specs.declared.Holding.{Holding}
use Rattle.fsl_blobs.specs.declared.blobs.HeldArtifact.{HeldArtifact}
use Rattle.fsl_blobs.specs.Fold.{Held, contents, place, IsBlobAt}
use Rattle.fsl_blobs.specs.Seen.{Seen, IsHolding, held_as}
use Rattle.fsl_blobs.specs.Kept.{held_at, artifact_of, receipt_of, IsFrom, AreFrom}
use Rattle.fsl_blobs.specs.Listing.{Known, known_as, known_of, place_of}
use Rattle.fsl_blobs.proofs.HeldLists.{by_recursion, are_placed, distinct_places, keys_in}

-- ---- one of them

module _ (records : List Record) (es : List (List ℕ × HeldArtifact)) (held : (name : List ℕ) → option_map artifact_of (held_at es name) ≡ map_of.get (contents records).held name) (b : Seen) (view : records ≡ b.records) (name : List ℕ) where
  abbrev named : Held → List ℕ × Held
  named a = (name, a)

  held_is : map_of.get (contents b.records).held name ≡ option_map artifact_of (held_at es name)
  held_is = ap (λ (rs : List Record). map_of.get (contents rs).held name) (sym view) ∙ sym (held name)

  pub held-some : (a : HeldArtifact) → held_at es name ≡ Some a → Some (name, artifact_of a) ≡ option_map named (map_of.get (contents b.records).held name)
  held-some a at = sym (ap (option_map named) (held_is ∙ ap (option_map artifact_of) at))

  pub held-none : held_at es name ≡ None → None ≡ option_map named (map_of.get (contents b.records).held name)
  held-none none = sym (ap (option_map named) (held_is ∙ ap (option_map artifact_of) none))

pub receipt-held : (records : List Record) (es : List (List ℕ × HeldArtifact)) (receipts : (name : List ℕ) → receipt_of (held_at es name) ≡ map_of.get (contents records).receipts name)
    (b : Seen) (view : records ≡ b.records) (name : List ℕ) → receipt_of (held_at es name) ≡ map_of.get (contents b.records).receipts name
receipt-held records es receipts b view name = receipts name ∙ ap (λ (rs : List Record). map_of.get (contents rs).receipts name) view

pub from-some : (records : List Record) (starts : List ℕ) (es : List (List ℕ × HeldArtifact)) (from : AreFrom records starts es) (b : Seen) (view : records ≡ b.records) (name : List ℕ) (a : HeldArtifact) → held_at es name ≡ Some a
    → (h : Holding) → h.name ≡ name → h.place ≡ a.place → h.size ≡ a.size → h.bytes.now.value ≡ a.bytes.value → IsHolding b.records h
from-some records starts es from b view name a at h is_name is_place is_size is_bytes =
    let f : IsFrom records starts name a = subst (λ (o : Option HeldArtifact). IfSome o (IsFrom records starts name)) at (from name) in
    record {
      blob = subst (λ (rs : List Record). IsBlobAt rs h.place h.name h.bytes.now.value) view
          (subst (λ (n : ℕ). IsBlobAt records n h.name h.bytes.now.value) (sym is_place)
          (subst (λ (q : List ℕ). IsBlobAt records a.place q h.bytes.now.value) (sym is_name)
          (subst (λ (bs : List ℕ). IsBlobAt records a.place name bs) (sym is_bytes) f.blob)));
      size = is_size ∙ f.size ∙ sym (ap length is_bytes);
    }

-- ---- all of them

abbrev IsKnown : List Record → Known → Type 0
IsKnown records k = IsBlobAt records k.1 k.0 k.3 × (k.2 ≡ length k.3)

known-entries : (records : List Record) (es : List (List ℕ × HeldArtifact)) (starts : List ℕ) → AllByRecursion (λ e. IsFrom records starts e.0 e.1) es → AllByRecursion (IsKnown records) (map known_of es)
known-entries records [] starts h = tt
known-entries records (e ∷ es) starts h = ((h.0.blob, h.0.size), known-entries records es starts h.1)

holding-all : (records : List Record) (hs : List Holding) → AllByRecursion (IsKnown records) (map known_as hs) → AllByRecursion (IsHolding records) hs
holding-all records [] h = tt
holding-all records (x ∷ hs) h = (record { blob = h.0.0; size = h.0.1 }, holding-all records hs h.1)

from-entries : (records : List Record) (starts : List ℕ) (es : List (List ℕ × HeldArtifact)) → AreFrom records starts es → All (λ e. held_at es e.0 ≡ Some e.1) es → AllByRecursion (λ e. IsFrom records starts e.0 e.1) es
from-entries records starts es from all =
    by_recursion (λ e. IsFrom records starts e.0 e.1) es
    (All-weaker (λ e. held_at es e.0 ≡ Some e.1) (λ e. IsFrom records starts e.0 e.1) (λ e at. subst (λ (o : Option HeldArtifact). IfSome o (IsFrom records starts e.0)) at (from e.0)) es all)

places-of : (hs : List Holding) → map (λ h. h.place) hs ≡ map (λ k. k.1) (map known_as hs)
places-of [] = refl
places-of (h ∷ hs) = ap (λ (ns : List ℕ). h.place ∷ ns) (places-of hs)

places-in : (es : List (List ℕ × HeldArtifact)) → map (λ k. k.1) (map known_of es) ≡ map (λ p. p.0) (map place_of es)
places-in [] = refl
places-in (e ∷ es) = ap (λ (ns : List ℕ). e.1.place ∷ ns) (places-in es)

module _ (records : List Record) (starts : List ℕ) (es : List (List ℕ × HeldArtifact)) (hs : List Holding) (known : map known_as hs ≡ map known_of es) (all : All (λ e. held_at es e.0 ≡ Some e.1) es) where
  pub all-from : AreFrom records starts es → (b : Seen) → records ≡ b.records → AllByRecursion (IsHolding b.records) hs
  all-from from b view =
      subst (λ (rs : List Record). AllByRecursion (IsHolding rs) hs) view
      (holding-all records hs (subst (AllByRecursion (IsKnown records)) (sym known) (known-entries records es starts (from-entries records starts es from all))))

  pub all-apart : ((name : List ℕ) → IfSome (held_at es name) (λ a. place records name ≡ Some a.place)) → IsStrictlySortedBy bytes_cmp (keys_in es) → IsDistinct eqb (map (λ h. h.place) hs)
  all-apart places rise =
      subst (IsDistinct eqb) (sym (places-of hs ∙ ap (map (λ k. k.1)) known ∙ places-in es))
      (subst (λ (e : ℕ → ℕ → Bool). IsDistinct e (map (λ p. p.0) (map place_of es))) (λ i x y. unsigned_tied x y i)
      (distinct_places records es (are_placed records es places all) rise))

pub if-ok : {T E : Type 0} (P Q : T → Type 0) (r : Result T E) → ((x : T) → P x → Q x) → IfOk r P → IfOk r Q
if-ok P Q (Ok x) f h = f x h
if-ok P Q (Err e) f h = tt
