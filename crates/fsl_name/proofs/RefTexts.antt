-- What a text is as a reference.
use Rattle.std.proofs.Common.{◌≡◌, ℕ, ◌*◌, ◌≤◌, Bool, true, false, cond, eqb, List, length, Some, None, Result, Ok, Err, refl, sym, ap, subst, ◌∙◌, inl, arith}
use Rattle.std.specs.Prelude.{◌&&◌, ◌++◌, ◌↔◌, IsOk, MatchResult, OnOk, take}
use Rattle.std.proofs.Math.Seq.{take-append_seam}
use Rattle.std.proofs.lemmas.List.{length-take-le}
use Rattle.std.specs.List.{list_all}
use Rattle.std.proofs.lemmas.Bool.{eqb-true, eq-eqb, false≢true}
use Rattle.hex.specs.Hex.{encode_lower, decode_sized}
use Rattle.hex.specs.declared.error.FromHexError.{FromHexError}
use Rattle.hex.proofs.HexLemmas.{decode_sized-encode_lower}
use Rattle.fsl_order.proofs.Booleans.{first_holds, second_holds}
use Rattle.fsl_text.specs.Bytes.{AreBytes}
use Rattle.fsl_name.specs.Name.{IsNameFault, are_digits, bytes_of_digits, is_name_digit}
use Rattle.std.specs.Bool.{Decides}
use Rattle.std.specs.Cmp.Lexicographic.{bytes_decides}
use Rattle.fsl_name.specs.contracts.reference.RefPartialEq.TheImpl.{eq-value}
use Rattle.fsl_name.specs.Ref.{IsRef, IsRefFault, ref_bytes, ref_in, ref_text, same_ref}
use Rattle.fsl_name.specs.declared.NameFault.{NameFault}
use Rattle.fsl_name.specs.declared.NameFault.TheVariants.{Length, Digit}
use Rattle.fsl_name.specs.declared.reference.Ref.{Ref}
use Rattle.fsl_name.specs.declared.reference.Ref.TheVariants.{Own, Foreign}
use Rattle.fsl_name.proofs.ByteLists.{IsBytes-from_list}
use Rattle.fsl_name.proofs.Reading.{some_other}
use Rattle.fsl_name.proofs.ReadAgain.{bytes_again, digits_all, digits_back, length_digits}

-- what digits spell is written as these digits
pub record AreSpelled (count : ℕ) (text : List ℕ) : Type 0 where
  pub long : length (bytes_of_digits text) ≡ count
  pub bytes : AreBytes (bytes_of_digits text)
  pub written : text ≡ encode_lower (bytes_of_digits text)

pub are_spelled : (count : ℕ) (text : List ℕ) → length text ≡ 2 * count → list_all is_name_digit text ≡ true → AreSpelled count text
are_spelled count text long digits =
    let back = digits_back text count long digits in
    record { long = back.long; bytes = back.bytes; written = sym back.spelled }

-- bytes are written as twice as many digits, which spell them
module _ (bytes : List ℕ) (h : AreBytes bytes) where
  pub as_digits : (count : ℕ) → length bytes ≡ count → are_digits (2 * count) (encode_lower bytes) ≡ true
  as_digits count long =
      let many : eqb (length (encode_lower bytes)) (2 * count) ≡ true = eq-eqb _ _ (length_digits bytes ∙ ap (λ n. 2 * n) long) in
      rw (many, digits_all bytes h) refl

  pub other_count : (count other : ℕ) → length bytes ≡ count → eqb (2 * count) other ≡ false → are_digits other (encode_lower bytes) ≡ false
  other_count count other long apart =
      let many : eqb (length (encode_lower bytes)) other ≡ false = ap (λ n. eqb n other) (length_digits bytes ∙ ap (λ n. 2 * n) long) ∙ apart in
      rw many refl

-- a reference is read again from its digits
pub ref_again : (r : Ref) → IsRef r → ref_in (ref_text r) ≡ Some r
ref_again (Own name) h = rw (as_digits name h.1 20 h.0) (ap (λ (n : List ℕ). Some (Own n)) (bytes_again name h.1))
ref_again (Foreign bytes) h =
    rw (other_count bytes h.1 32 40 h.0 refl, as_digits bytes h.1 32 h.0) (ap (λ (n : List ℕ). Some (Foreign n)) (bytes_again bytes h.1))

-- and from nothing else
abbrev pub IsItsText : List ℕ → Ref → Type 0
IsItsText text r = IsRef r × (text ≡ ref_text r)

pub ref_from_text : (text : List ℕ) (r : Ref) → ref_in text ≡ Some r → IsRef r × (text ≡ ref_text r)
ref_from_text text r e = by (are_digits 40 text) (are_digits 64 text) refl refl e
  where
    inside : (a b : Ref) → Some a ≡ Some b → a ≡ b
    inside a b f = cc

    by : (t u : Bool) → are_digits 40 text ≡ t → are_digits 64 text ≡ u
        → cond t (Some (Own (bytes_of_digits text))) (cond u (Some (Foreign (bytes_of_digits text))) None) ≡ Some r → IsItsText text r
    by true u f g k =
        let s = are_spelled 20 text (eqb-true (length text) 40 (first_holds _ (list_all is_name_digit text) f)) (second_holds (eqb (length text) 40) _ f) in
        subst (IsItsText text) (inside _ _ k) ((s.long, s.bytes), s.written)
    by false true f g k =
        let s = are_spelled 32 text (eqb-true (length text) 64 (first_holds _ (list_all is_name_digit text) g)) (second_holds (eqb (length text) 64) _ g) in
        subst (IsItsText text) (inside _ _ k) ((s.long, s.bytes), s.written)
    by false false f g k = absurd cc

-- a text is one reference at most
pub ref_only : (text : List ℕ) (found r : Ref) → ref_in text ≡ Some found → IsRef r → text ≡ ref_text r → found ≡ r
ref_only text found r e h written = inside (sym e ∙ ap ref_in written ∙ ref_again r h)
  where
    inside : Some found ≡ Some r → found ≡ r
    inside f = cc

pub no_ref_only : (text : List ℕ) (r : Ref) → ref_in text ≡ None → IsRef r → text ≡ ref_text r → ⊥
no_ref_only text r e h written = no (sym e ∙ ap ref_in written ∙ ref_again r h)
  where
    no : None ≡ Some r → ⊥
    no f = cc

-- ---- what is no reference

pub no_digits : (text : List ℕ) → list_all is_name_digit text ≡ false → ref_in text ≡ None
no_digits text h = rw h (by (eqb (length text) 40) (eqb (length text) 64))
  where
    by : (t u : Bool) → cond (t && false) (Some (Own (bytes_of_digits text))) (cond (u && false) (Some (Foreign (bytes_of_digits text))) None) ≡ None
    by true true = refl
    by true false = refl
    by false true = refl
    by false false = refl

pub no_length : (text : List ℕ) → (length text ≡ 40 → ⊥) → (length text ≡ 64 → ⊥) → ref_in text ≡ None
no_length text h k =
    let short : eqb (length text) 40 ≡ false = grind arith in
    let long : eqb (length text) 64 ≡ false = grind arith in
    rw (short, long) refl

-- a text of 40 bytes that is no name is no reference, for the same reason
pub no_own : (text : List ℕ) (why : NameFault) → length text ≡ 40 → IsNameFault text why → (ref_in text ≡ None) × IsRefFault text why
no_own text (Length found) long h = absurd (h.0 long)
no_own text (Digit at) long h = (no_digits text (some_other text at h.1), (inl long, h.1))

-- digits that spell a foreign name
pub foreign_in : (text : List ℕ) → length text ≡ 64 → list_all is_name_digit text ≡ true → (ref_in text ≡ Some (Foreign (bytes_of_digits text))) × IsItsText text (Foreign (bytes_of_digits text))
foreign_in text long digits =
    let s = are_spelled 32 text long digits in
    (rw (long, digits) refl, ((s.long, s.bytes), s.written))

-- what was decoded into room for 32 bytes
pub decoded_foreign : (text out : List ℕ) (r : Result Unit FromHexError) → length text ≡ 64 → list_all is_name_digit text ≡ true
    → MatchResult (decode_sized text 32) (λ bytes. (r ≡ Ok tt) × (out ≡ bytes)) (λ e. r ≡ Err e) → out ≡ bytes_of_digits text
decoded_foreign text out r long digits h =
    let s = are_spelled 32 text long digits in
    let e : decode_sized text 32 ≡ Ok (bytes_of_digits text) =
    ap (λ s. decode_sized s 32) s.written ∙ decode_sized-encode_lower (bytes_of_digits text) 32 s.long (IsBytes-from_list _ s.bytes) in
    (rw e at h).1

-- ---- how references are written

-- its digits fit into room for 64
pub fits : (r : Ref) → IsRef r → 2 * length (ref_bytes r) ≤ 64
fits (Own name) h = omega (arith, h.0)
fits (Foreign bytes) h = omega (arith, h.0)

pub ref_bytes-AreBytes : (r : Ref) → IsRef r → AreBytes (ref_bytes r)
ref_bytes-AreBytes (Own name) h = h.1
ref_bytes-AreBytes (Foreign bytes) h = h.1

-- what is written into the front of some room is the text of the reference
pub written : (r : Ref) (bytes into out back : List ℕ) (done : Result Unit FromHexError) → IsRef r → bytes ≡ ref_bytes r → length into ≡ 64
    → (IsOk done ↔ (length (take (2 * length bytes) into) ≡ 2 * length bytes)) → OnOk done (out ≡ encode_lower bytes) → take (2 * length bytes) (out ++ back) ≡ ref_text r
written r bytes into out back (Ok u) h same room fit made =
    let long : 2 * length bytes ≡ length out = sym (ap length made ∙ length_digits bytes) in
    ap (λ n. take n (out ++ back)) long ∙ take-append_seam out back ∙ made ∙ ap encode_lower same
written r bytes into out back (Err e) h same room fit made =
    let inside : 2 * length bytes ≤ length into = subst (λ (b : List ℕ). 2 * length b ≤ length into) (sym same) (subst (λ n. 2 * length (ref_bytes r) ≤ n) (sym room) (fits r h)) in
    absurd (false≢true (fit.1 (length-take-le (2 * length bytes) into inside)))

-- ---- whether two are the same

-- what `==` answers
pub ref_eq-is : (x y : Ref) → eq-value.it x y ≡ same_ref x y
ref_eq-is (Own x) (Own y) = refl
ref_eq-is (Own x) (Foreign y) = refl
ref_eq-is (Foreign x) (Own y) = refl
ref_eq-is (Foreign x) (Foreign y) = refl

pub ref_decides : (x y : Ref) → Decides (same_ref x y) (x ≡ y)
ref_decides (Own x) (Own y) = (λ h. ap Own ((bytes_decides x y).0 h), λ e. (bytes_decides x y).1 (ap ref_bytes e))
ref_decides (Own x) (Foreign y) = (λ h. absurd cc, λ e. absurd cc)
ref_decides (Foreign x) (Own y) = (λ h. absurd cc, λ e. absurd cc)
ref_decides (Foreign x) (Foreign y) = (λ h. ap Foreign ((bytes_decides x y).0 h), λ e. (bytes_decides x y).1 (ap ref_bytes e))
