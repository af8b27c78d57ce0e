-- What arguments stand for, as code finds it.
use Rattle.std.proofs.Common.{◌≡◌, ℕ, Bool, true, false, not, cond, eqb, List, length, Option, Some, None, Result, Ok, Err, refl, sym, ap, ◌∙◌}
use Rattle.std.specs.Prelude.{◌&&◌, MatchResult}
use Rattle.std.specs.List.{list_all}
use Rattle.fsl_name.specs.Name.{name_in, name_read, are_digits, is_name_digit, bytes_of_digits}
use Rattle.fsl_name.specs.declared.NameFault.{NameFault}
use Rattle.fsl_name.proofs.ByteLists.{IsBytes-from_list}
use Rattle.fsl_name.proofs.ReadAgain.{digits_back}
use Rattle.hex.specs.Hex.{decode_sized}
use Rattle.hex.specs.declared.error.FromHexError.{FromHexError}
use Rattle.hex.proofs.HexLemmas.{decode_sized-encode_lower}
use Rattle.std.proofs.lemmas.Bool.{eqb-true}
use Rattle.fsl_order.proofs.Booleans.{first_holds, second_holds}

abbrev nothing : Option (List ℕ)
nothing = None

-- a text is a name exactly where it is read as one
pub name_in-read : (text : List ℕ) (r : Result (List ℕ) NameFault) → r ≡ name_read text → MatchResult r (λ name. Some name ≡ name_in text) (λ _. None ≡ name_in text)
name_in-read text r e = by (eqb (length text) 40) (list_all is_name_digit text) _ _ r e
  where
    by : (a b : Bool) (f g : NameFault) (r : Result (List ℕ) NameFault) → r ≡ cond (not a) (Err f) (cond (not b) (Err g) (Ok (bytes_of_digits text)))
        → MatchResult r (λ name. Some name ≡ cond (a && b) (Some (bytes_of_digits text)) nothing) (λ _. nothing ≡ cond (a && b) (Some (bytes_of_digits text)) nothing)
    by true true f g (Ok name) e = cc
    by true true f g (Err h) e = absurd cc
    by true false f g (Ok name) e = absurd cc
    by true false f g (Err h) e = refl
    by false b f g (Ok name) e = absurd cc
    by false b f g (Err h) e = refl

-- what was decoded into room for 16 bytes is what the digits spell
pub decoded : (text out : List ℕ) (r : Result Unit FromHexError) → are_digits 32 text ≡ true
    → MatchResult (decode_sized text 16) (λ bytes. (r ≡ Ok tt) × (out ≡ bytes)) (λ e. r ≡ Err e) → out ≡ bytes_of_digits text
decoded text out r digits h =
    let long : length text ≡ 32 = eqb-true _ _ (first_holds _ (list_all is_name_digit text) digits) in
    let back = digits_back text 16 long (second_holds (eqb (length text) 32) _ digits) in
    let e : decode_sized text 16 ≡ Ok (bytes_of_digits text) =
    ap (λ s. decode_sized s 16) (sym back.spelled) ∙ decode_sized-encode_lower (bytes_of_digits text) 16 back.long (IsBytes-from_list _ back.bytes) in
    (rw e at h).1
