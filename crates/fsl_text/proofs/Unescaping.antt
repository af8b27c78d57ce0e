-- What is escaped is read again.
use Rattle.std.proofs.Common.{◌≡◌, ℕ, ◌+◌, ◌<◌, Bool, true, false, cond, eqb, List, [], ◌∷◌, ◌++◌, length, drop, get_or, refl, sym, ap, ◌∙◌, append_assoc}
use Rattle.std.proofs.lemmas.Bool.{eqb-true, ne_eqb}
use Rattle.std.proofs.lemmas.List.{drop_more}
use Rattle.fsl_text.specs.Escapes.{escape, unescape, escaped_byte, byte_meant}

-- a byte that is no backslash stands for itself
unescape-plain : (b : ℕ) (rest : List ℕ) → eqb b 92 ≡ false → unescape (b ∷ rest) ≡ b ∷ unescape rest
unescape-plain b [] h = refl
unescape-plain b (c ∷ rest) h = rw h refl

-- a byte that is one of the eight is read again from its two bytes
read_special : (b c form : ℕ) (t : Bool) (other rest : List ℕ) → eqb b c ≡ t → byte_meant form ≡ c → (t ≡ false → unescape (other ++ rest) ≡ b ∷ unescape rest) → unescape (cond t (92 ∷ form ∷ []) other ++ rest) ≡ b ∷ unescape rest
read_special b c form false other rest e m more = more refl
read_special b c form true other rest e m more = ap (λ (x : ℕ). x ∷ unescape rest) (m ∙ sym (eqb-true b c e))

read_byte : (b : ℕ) (rest : List ℕ) → unescape (escaped_byte b ++ rest) ≡ b ∷ unescape rest
read_byte b rest =
    read_special b 32 115 (eqb b 32) _ rest refl refl λ _.
    read_special b 10 110 (eqb b 10) _ rest refl refl λ _.
    read_special b 92 92 (eqb b 92) _ rest refl refl λ plain.
    read_special b 9 116 (eqb b 9) _ rest refl refl λ _.
    read_special b 13 114 (eqb b 13) _ rest refl refl λ _.
    read_special b 11 118 (eqb b 11) _ rest refl refl λ _.
    read_special b 12 102 (eqb b 12) _ rest refl refl λ _.
    read_special b 0 48 (eqb b 0) _ rest refl refl λ _.
    unescape-plain b rest plain

pub unescape-escape : (text : List ℕ) → unescape (escape text) ≡ text
unescape-escape [] = refl
unescape-escape (b ∷ text) = read_byte b (escape text) ∙ ap (λ (rest : List ℕ). b ∷ rest) (unescape-escape text)

-- a loop over a written text has read one byte more, and knows whether a backslash stands right before it
abbrev pub IsReadTo : List ℕ → ℕ → Bool → List ℕ → Type 0
IsReadTo text i escaped bytes = unescape text ≡ bytes ++ cond escaped (unescape (92 ∷ drop i text)) (unescape (drop i text))

pub read_meant : (text bytes new : List ℕ) (i m : ℕ) (escaped after : Bool) → i < length text → escaped ≡ true → after ≡ false → m ≡ byte_meant (get_or text i 0) → new ≡ bytes ++ m ∷ [] → IsReadTo text i escaped bytes → IsReadTo text (i + 1) after new
read_meant text bytes new i m escaped true lt e f is made read = absurd cc
read_meant text bytes new i m false false lt e f is made read = absurd cc
read_meant text bytes new i m true false lt e f is made read =
    rw (made, append_assoc, is) (read ∙ ap (λ (rest : List ℕ). bytes ++ unescape (92 ∷ rest)) (drop_more text i 0 lt))

pub read_backslash : (text bytes : List ℕ) (i : ℕ) (escaped after : Bool) → i < length text → escaped ≡ false → after ≡ true → get_or text i 0 ≡ 92 → IsReadTo text i escaped bytes → IsReadTo text (i + 1) after bytes
read_backslash text bytes i escaped false lt e f here read = absurd cc
read_backslash text bytes i true true lt e f here read = absurd cc
read_backslash text bytes i false true lt e f here read =
    read ∙ ap (λ (rest : List ℕ). bytes ++ unescape rest) (drop_more text i 0 lt)
    ∙ ap (λ (b : ℕ). bytes ++ unescape (b ∷ drop (i + 1) text)) here

pub read_plain : (text bytes new : List ℕ) (i : ℕ) (escaped after : Bool) → i < length text → escaped ≡ false → after ≡ escaped → ¬ (get_or text i 0 ≡ 92) → new ≡ bytes ++ get_or text i 0 ∷ [] → IsReadTo text i escaped bytes → IsReadTo text (i + 1) after new
read_plain text bytes new i true after lt e f here made read = absurd cc
read_plain text bytes new i false true lt e f here made read = absurd cc
read_plain text bytes new i false false lt e f here made read =
    rw (made, append_assoc) (read ∙ ap (λ (rest : List ℕ). bytes ++ unescape rest) (drop_more text i 0 lt)
    ∙ ap (λ (rest : List ℕ). bytes ++ rest) (unescape-plain (get_or text i 0) (drop (i + 1) text) (ne_eqb (get_or text i 0) 92 here)))
