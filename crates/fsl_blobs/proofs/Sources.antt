-- Where the contents of held artifacts stand, as records come.
use Rattle.std.proofs.Common.{◌≡◌, ℕ, zero, suc, ◌+◌, ◌-◌, ◌<◌, Bool, true, false, cond, not, List, [], ◌∷◌, ◌++◌, length, Option, Some, None, refl, sym, ap, ◌∙◌, subst, arith}
use Rattle.std.specs.Prelude.{◌&&◌, if◌then◌else◌, IfSome, slice_get, Contains}
use Rattle.std.specs.Option.{option_map}
use Rattle.std.proofs.lemmas.Bool.{and_parts}
use Rattle.lru.proofs.Splits.{Contains-nil}
use Rattle.fsl_name.specs.Name.{name_of}
use Rattle.fsl_record.specs.Receipts.{Brought}
use Rattle.fsl_record.specs.declared.Record.{Record}
use Rattle.fsl_record.specs.declared.Record.TheVariants as record_of
use Rattle.fsl_record.specs.Records.{IsWritable}
use Rattle.fsl_blobs.specs.declared.blobs.HeldArtifact.{HeldArtifact}
use Rattle.fsl_blobs.specs.Fold.{IsBlobAt}
use Rattle.fsl_blobs.specs.Seen.{IsBounded}
use Rattle.fsl_blobs.specs.Kept.{is_same, is_kept, held_at, published, artifact_of, IsFrom, AreFrom, IsCachedOf, AreCached}
use Rattle.fsl_blobs.proofs.KeptLemmas.{is_same-means}
use Rattle.fsl_blobs.proofs.Places.{get_last}

-- what stands in a list stands there when an item comes at its end
pub get-more : {X : Type 0} (xs : List X) (x y : X) (i : ℕ) → slice_get xs i ≡ Some y → slice_get (xs ++ x ∷ []) i ≡ Some y
get-more [] x y i e = cc
get-more (z ∷ xs) x y zero e = e
get-more (z ∷ xs) x y (suc i) e = get-more xs x y i e

abbrev IsFromOr : List Record → List ℕ → List ℕ → Option HeldArtifact → Type 0
IsFromOr records starts name o = IfSome o (IsFrom records starts name)

from-more : (records : List Record) (r : Record) (starts : List ℕ) (at : ℕ) (name : List ℕ) (o : Option HeldArtifact) → IsFromOr records starts name o → IsFromOr (records ++ r ∷ []) (starts ++ at ∷ []) name o
from-more records r starts at name None h = tt
from-more records r starts at name (Some a) h = record {
  blob = (h.blob.0, h.blob.1, get-more records r (record_of.Blob h.blob.0 name h.blob.1 a.bytes.value) (a.place - 1) h.blob.2);
  start = get-more starts at a.at (a.place - 1) h.start;
  size = h.size;
  named = h.named;
}

from-public : (records : List Record) (starts name q : List ℕ) (o : Option HeldArtifact) → IsFromOr records starts q o → IsFromOr records starts q (option_map (published name q) o)
from-public records starts name q None h = tt
from-public records starts name q (Some a) h =
    elim (is_same name q) as (λ b. IsFrom records starts q (if b then record a { private = false } else a)) [
      | true ↦ record { blob = h.blob; start = h.start; size = h.size; named = h.named }
      | false ↦ h
    ]

from-less : (records : List Record) (starts q : List ℕ) (b : Bool) (o : Option HeldArtifact) → IsFromOr records starts q o → IsFromOr records starts q (cond b None o)
from-less records starts q true o h = tt
from-less records starts q false o h = h

module _ (records : List Record) (starts : List ℕ) (es : List (List ℕ × HeldArtifact)) (from : AreFrom records starts es) (at : ℕ) where
  pub from-still : (r : Record) (new : List (List ℕ × HeldArtifact)) → new ≡ es → AreFrom (records ++ r ∷ []) (starts ++ at ∷ []) new
  from-still r new same = subst (AreFrom (records ++ r ∷ []) (starts ++ at ∷ [])) (sym same) (λ q. from-more records r starts at q (held_at es q) (from q))

  pub from-publish : (name : List ℕ) (new : List (List ℕ × HeldArtifact)) → ((q : List ℕ) → held_at new q ≡ option_map (published name q) (held_at es q))
      → AreFrom (records ++ record_of.Publish name ∷ []) (starts ++ at ∷ []) new
  from-publish name new now q =
      subst (IsFromOr (records ++ record_of.Publish name ∷ []) (starts ++ at ∷ []) q) (sym (now q))
      (from-public (records ++ record_of.Publish name ∷ []) (starts ++ at ∷ []) name q (held_at es q) (from-more records (record_of.Publish name) starts at q (held_at es q) (from q)))

  pub from-shun : (name : List ℕ) (new : List (List ℕ × HeldArtifact)) → ((q : List ℕ) → held_at new q ≡ cond (is_same name q) None (held_at es q))
      → AreFrom (records ++ record_of.Shun name ∷ []) (starts ++ at ∷ []) new
  from-shun name new now q =
      subst (IsFromOr (records ++ record_of.Shun name ∷ []) (starts ++ at ∷ []) q) (sym (now q))
      (from-less (records ++ record_of.Shun name ∷ []) (starts ++ at ∷ []) q (is_same name q) (held_at es q) (from-more records (record_of.Shun name) starts at q (held_at es q) (from q)))

  module _ (private : Bool) (name : List ℕ) (receipt : Option Brought) (bytes : List ℕ) (fit : IsWritable (record_of.Blob private name receipt bytes)) (shuns : List (List ℕ)) (a : HeldArtifact)
      (last : a.place ≡ length records + 1) (count : length starts ≡ length records) (begins : a.at ≡ at) (size : a.size ≡ length bytes) (value : a.bytes.value ≡ bytes)
      (new : List (List ℕ × HeldArtifact)) (now : (q : List ℕ) → held_at new q ≡ cond (is_same name q && not (is_kept es shuns name)) (Some a) (held_at es q)) where
    abbrev blob : Record
    blob = record_of.Blob private name receipt bytes

    index : a.place - 1 ≡ length records
    index = omega (arith, last)

    own : (q : List ℕ) → name ≡ q → IsFrom (records ++ blob ∷ []) (starts ++ at ∷ []) q a
    own q same = subst (λ (x : List ℕ). IsFrom (records ++ blob ∷ []) (starts ++ at ∷ []) x a) same record {
      blob = (private, receipt, ap (slice_get (records ++ blob ∷ [])) index ∙ get_last records blob ∙ ap (λ (bs : List ℕ). Some (record_of.Blob private name receipt bs)) (sym value));
      start = ap (slice_get (starts ++ at ∷ [])) (index ∙ sym count) ∙ get_last starts at ∙ ap Some (sym begins);
      size = size ∙ ap length (sym value);
      named = fit.0 ∙ ap name_of (sym value);
    }

    pub from-blob : AreFrom (records ++ blob ∷ []) (starts ++ at ∷ []) new
    from-blob q =
        subst (IsFromOr (records ++ blob ∷ []) (starts ++ at ∷ []) q) (sym (now q))
        (elim (is_same name q && not (is_kept es shuns name)) as (λ b. (is_same name q && not (is_kept es shuns name)) ≡ b → IsFromOr (records ++ blob ∷ []) (starts ++ at ∷ []) q (cond b (Some a) (held_at es q))) [
          | true ↦ λ e. own q (is_same-means name q (and_parts (is_same name q) (not (is_kept es shuns name)) e).0)
          | false ↦ λ _. from-more records blob starts at q (held_at es q) (from q)
        ] refl)

-- what is kept in memory stays so when a record comes
pub cached-more : (records : List Record) (r : Record) (cached : List (ℕ × List ℕ)) → AreCached records cached → AreCached (records ++ r ∷ []) cached
cached-more records r cached h e there =
    let was = h e there in
    record {
      name = was.name;
      bytes = was.bytes;
      blob = (was.blob.0, was.blob.1, get-more records r (record_of.Blob was.blob.0 was.name was.blob.1 was.bytes) (e.0 - 1) was.blob.2);
      named = was.named;
      sized = was.sized;
    }

-- sizes are those of the bytes
pub sized-from : (records : List Record) (starts : List ℕ) (es : List (List ℕ × HeldArtifact)) → AreFrom records starts es → (name : List ℕ) → IfSome (held_at es name) (λ a. a.size ≡ length a.bytes.value)
sized-from records starts es from name = by (held_at es name) (from name)
  where
    by : (o : Option HeldArtifact) → IsFromOr records starts name o → IfSome o (λ a. a.size ≡ length a.bytes.value)
    by None h = tt
    by (Some a) h = h.size

-- before any record but the first
pub from-first : (records : List Record) (starts : List ℕ) (es : List (List ℕ × HeldArtifact)) → es ≡ [] → AreFrom records starts es
from-first records starts es none q = subst (λ (m : List (List ℕ × HeldArtifact)). IfSome (held_at m q) (IsFrom records starts q)) (sym none) tt

pub cached-first : (records : List Record) (cached : List (ℕ × List ℕ)) → cached ≡ [] → AreCached records cached
cached-first records cached none = subst (AreCached records) (sym none) (λ e there. absurd (Contains-nil e there))

pub bounded-first : (cached : List (ℕ × List ℕ)) → cached ≡ [] → IsBounded cached
bounded-first cached none = subst IsBounded (sym none) (record { few = omega arith; short = λ e there. absurd (Contains-nil e there) })
