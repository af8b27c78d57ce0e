-- What the readers of words answer.
use Rattle.std.proofs.Common.{◌≡◌, ℕ, ◌+◌, ◌-◌, ◌<◌, ◌^◌, Bool, true, false, List, [], ◌∷◌, ◌++◌, length, take, drop, position, Some, None, refl, sym, ap, ◌∙◌}
use Rattle.std.specs.Prelude.{◌==◌, ◌&&◌, not, decimal, Result, Ok, Err, IsTrue}
use Rattle.std.specs.List.{list_all}
use Rattle.std.specs.Str.{bytes_eq}
use Rattle.std.specs.Cmp.Lexicographic.{bytes_decides}
use Rattle.std.proofs.lemmas.Bool.{not-true, and_from}
use Rattle.std.proofs.lemmas.List.{take_rest, take-append-drop}
use Rattle.fsl_order.proofs.Booleans.{first_holds, second_holds}
use Rattle.fsl_text.specs.Bytes.{is_empty}
use Rattle.fsl_text.specs.Escapes.{escape, unescape}
use Rattle.fsl_text.specs.Decimals.{decimal_of, is_decimal_digit}
use Rattle.fsl_text.specs.declared.fault.DecimalFault.{DecimalFault}
use Rattle.fsl_text.proofs.Unescaping.{unescape-escape}
use Rattle.fsl_text.proofs.DecimalTexts.{decimal_is, fits}
use Rattle.fsl_date.specs.Moment.{IsMoment, moment_text, date_in}
use Rattle.fsl_uv.specs.Entries.{is_path}
use Rattle.fsl_uv.proofs.Solid.{Lacks, at-place, moment-again}

some-is : {X : Type 0} (x y : X) → Some x ≡ Some y → x ≡ y
some-is x y e = cc

ok-is : (a : Result ℕ DecimalFault) (x y : ℕ) → a ≡ Ok x → a ≡ Ok y → x ≡ y
ok-is a x y p q = cc

pub no-tie : (r : Bool) (a b : List ℕ) → r ≡ bytes_eq a b → r ≡ false → a ≡ b → ⊥
no-tie r a b is f same = let e = sym f ∙ is ∙ (bytes_decides a b).1 same in cc

pub tie : (r : Bool) (a b : List ℕ) → r ≡ bytes_eq a b → r ≡ true → a ≡ b
tie r a b is t = (bytes_decides a b).0 (sym is ∙ t)

pub halves : (c : ℕ) (s : List ℕ) (place : ℕ) → position (λ b. b == c) s ≡ Some place
    → (Lacks c (take place s)) × (s ≡ take place s ++ c ∷ take (length s - (place + 1)) (drop (place + 1) s))
halves c s place h = let p = at-place c s place h in (p.before, p.whole ∙ ap (λ r. take place s ++ c ∷ r) (sym (take_rest s (place + 1))))

take-append-length : (p rest : List ℕ) → take (length p) (p ++ rest) ≡ p
take-append-length [] rest = refl
take-append-length (b ∷ p) rest = ap (λ (l : List ℕ). b ∷ l) (take-append-length p rest)

-- a text that is read as no moment, or as one that is written in another way
pub other-moment : (word : List ℕ) (n : ℕ) → date_in word ≡ Some n → (moment_text n ≡ word → ⊥) → (m : ℕ) → IsMoment m → word ≡ moment_text m → ⊥
other-moment word n is differs m h e = let same : n ≡ m = some-is n m (sym is ∙ ap date_in e ∙ moment-again m h) in differs (ap moment_text same ∙ sym e)

pub no-moment : (word : List ℕ) → date_in word ≡ None → (m : ℕ) → IsMoment m → word ≡ moment_text m → ⊥
no-moment word is m h e = let s = sym is ∙ ap date_in e ∙ moment-again m h in cc

pub decimal-again : (n : ℕ) → n < 2 ^ 64 → decimal_of (decimal n) ≡ Ok n
decimal-again n h =
    let d = decimal_is n h in
    let some : is_empty (decimal n) ≡ false = not-true (is_empty (decimal n)) (first_holds (not (is_empty (decimal n))) (list_all is_decimal_digit (decimal n)) d.0) in
    let digits : list_all is_decimal_digit (decimal n) ≡ true = second_holds (not (is_empty (decimal n))) (list_all is_decimal_digit (decimal n)) d.0 in
    rw (some, digits, d.1, fits n h) refl

pub other-size : (word : List ℕ) (k : ℕ) → decimal_of word ≡ Ok k → (decimal k ≡ word → ⊥) → (n : ℕ) → n < 2 ^ 64 → word ≡ decimal n → ⊥
other-size word k is differs n h e = let same : k ≡ n = ok-is (decimal_of word) k n is (ap decimal_of e ∙ decimal-again n h) in differs (ap decimal same ∙ sym e)

pub no-size : (word : List ℕ) (fault : DecimalFault) → decimal_of word ≡ Err fault → (n : ℕ) → n < 2 ^ 64 → word ≡ decimal n → ⊥
no-size word fault is n h e = let s = sym is ∙ ap decimal_of e ∙ decimal-again n h in cc

pub no-path : (word path : List ℕ) (r : Bool) → path ≡ unescape word → r ≡ (is_path path && bytes_eq (escape path) word) → r ≡ false → (p : List ℕ) → IsTrue (is_path p) → word ≡ escape p → ⊥
no-path word path r is test f p h e =
    let same : path ≡ p = is ∙ ap unescape e ∙ unescape-escape p in
    let good : is_path path ≡ true = ap is_path same ∙ h in
    let again : bytes_eq (escape path) word ≡ true = (bytes_decides (escape path) word).1 (ap escape same ∙ sym e) in
    let s = sym f ∙ test ∙ and_from (is_path path) (bytes_eq (escape path) word) good again in cc

pub no-prefix-there : (line prefix : List ℕ) → bytes_eq (take (length prefix) line) prefix ≡ false → (rest : List ℕ) → line ≡ prefix ++ rest → ⊥
no-prefix-there line prefix h rest e =
    let s = sym h ∙ (bytes_decides (take (length prefix) line) prefix).1 (ap (take (length prefix)) e ∙ take-append-length prefix rest) in cc

pub prefix-there : (line prefix rest : List ℕ) → bytes_eq (take (length prefix) line) prefix ≡ true → rest ≡ drop (length prefix) line → line ≡ prefix ++ rest
prefix-there line prefix rest h is = sym (take-append-drop (length prefix) line) ∙ (λ i. (bytes_decides (take (length prefix) line) prefix).0 h i ++ sym is i)
