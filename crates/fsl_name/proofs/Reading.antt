-- What a text is read as: its 40 digits decode to its name, or else it has a first other byte.
use Rattle.std.proofs.Common.{◌≡◌, ℕ, ◌≤◌, Bool, true, false, not, cond, List, length, position, Some, None, Result, Ok, Err, refl, sym, ap, ◌∙◌, arith}
use Rattle.std.specs.Prelude.{nat_lt, MatchResult, ◌*◌}
use Rattle.std.specs.List.{list_all, position_or_len}
use Rattle.std.proofs.lemmas.List.Sums.{fails_before_first, list_all-from_AllPass}
use Rattle.std.proofs.lemmas.List.Folds.{list_all_at}
use Rattle.std.proofs.lemmas.List.Quantifiers.{position-Some}
use Rattle.std.proofs.lemmas.Bool.{not-false, not-true}
use Rattle.hex.specs.Hex.{decode_sized}
use Rattle.hex.specs.declared.error.FromHexError.{FromHexError}
use Rattle.hex.proofs.HexLemmas.{decode_sized-encode_lower}
use Rattle.fsl_text.proofs.Bytewise.{none_past}
use Rattle.fsl_name.specs.declared.NameFault.TheVariants.{Length, Digit}
use Rattle.fsl_name.specs.Name.{is_name_digit, bytes_of_digits, name_read, IsNameText}
use Rattle.fsl_name.proofs.ByteLists.{IsBytes-from_list}
use Rattle.fsl_name.proofs.ReadAgain.{digits_back, digits_all, length_digits, bytes_again}

abbrev other : ℕ → Bool
other b = not (is_name_digit b)

-- 40 digits are the text of the bytes that they spell
pub is_text : (text : List ℕ) → length text ≡ 40 → list_all is_name_digit text ≡ true → IsNameText text (bytes_of_digits text)
is_text text long digits =
    let back = digits_back text 20 long digits in
    ((back.long, back.bytes), sym back.spelled)

-- what was decoded into room for 20 bytes
pub decoded : (text out : List ℕ) (r : Result Unit FromHexError) → length text ≡ 40 → list_all is_name_digit text ≡ true
    → MatchResult (decode_sized text 20) (λ bytes. (r ≡ Ok tt) × (out ≡ bytes)) (λ e. r ≡ Err e) → out ≡ bytes_of_digits text
decoded text out r long digits h =
    let t = is_text text long digits in
    let e : decode_sized text 20 ≡ Ok (bytes_of_digits text) =
    ap (λ s. decode_sized s 20) t.1 ∙ decode_sized-encode_lower (bytes_of_digits text) 20 t.0.0 (IsBytes-from_list _ t.0.1) in
    (rw e at h).1

-- ---- the first other byte

some_at : (i n k : ℕ) → cond (nat_lt i n) (Some i) None ≡ Some k → i ≡ k
some_at i n k h = grind (arith)

-- where there is no other byte all are digits
pub no_other : (text : List ℕ) → position other text ≡ None → list_all is_name_digit text ≡ true
no_other text h =
    let past : length text ≤ position_or_len other text = none_past _ _ h in
    list_all-from_AllPass is_name_digit text (λ k d lt. not-false _ (fails_before_first other text k d (omega arith)))

-- where there is one they aren't
pub some_other : (text : List ℕ) (k : ℕ) → position other text ≡ Some k → list_all is_name_digit text ≡ false
some_other text k h =
    let p = position-Some other text k 0 h in
    list_all_at is_name_digit text k 0 p.0 (not-true _ p.1)

-- ---- what is read

pub read-long : (text : List ℕ) → (length text ≡ 40 → ⊥) → name_read text ≡ Err (Length (length text))
read-long text h = grind (arith)

pub read-other : (text : List ℕ) (k : ℕ) → length text ≡ 40 → position other text ≡ Some k → name_read text ≡ Err (Digit k)
read-other text k long h = rw (long, some_other text k h, some_at _ _ _ h) refl

pub read-digits : (text : List ℕ) → length text ≡ 40 → list_all is_name_digit text ≡ true → name_read text ≡ Ok (bytes_of_digits text)
read-digits text long digits = rw (long, digits) refl

-- the digits of a name are read as the name
pub read-text : (text name : List ℕ) → IsNameText text name → name_read text ≡ Ok name
read-text text name h =
    let long : length text ≡ 40 = ap length h.1 ∙ length_digits name ∙ ap (λ n. 2 * n) h.0.0 in
    read-digits text long (rw (h.1) (digits_all name h.0.1)) ∙ ap Ok (ap bytes_of_digits h.1 ∙ bytes_again name h.0.1)
