-- Texts that are compared one by one, and a Config by its parts.
use Rattle.std.specs.Prelude.{◌≡◌, ℕ, ◌+◌, ◌<◌, Bool, false, not, List, [], ◌∷◌, ◌++◌, length, take}
use Rattle.std.specs.Str.{bytes_eq}
use Rattle.std.specs.Cmp.Lexicographic.{bytes_decides}
use Rattle.std.proofs.Common.{get_or, sym, ap, ◌∙◌}
use Rattle.std.proofs.lemmas.List.{take_more, get_or_default}
use Rattle.std.proofs.lemmas.Bool.{not-false}
use Rattle.fsl_record.specs.declared.Config.{Config}

pub texts_on : (xs ys : List (List ℕ)) (i : ℕ) (x y : List ℕ) → i < length xs → i < length ys → x ≡ get_or xs i x → y ≡ get_or ys i y → x ≡ y → take i xs ≡ take i ys → take (i + 1) xs ≡ take (i + 1) ys
texts_on xs ys i x y lx ly ix iy same so = take_more xs i x lx ∙ (λ k. so k ++ (sym ix ∙ same ∙ iy) k ∷ []) ∙ sym (take_more ys i y ly)

pub texts_differ : (xs ys : List (List ℕ)) (i : ℕ) (x y : List ℕ) → i < length xs → x ≡ get_or xs i x → y ≡ get_or ys i y → (x ≡ y → ⊥) → xs ≡ ys → ⊥
texts_differ xs ys i x y lx ix iy not same = not (ix ∙ get_or_default xs i x y lx ∙ ap (λ (l : List (List ℕ)). get_or l i y) same ∙ sym iy)

pub config_by : (a b : Config) → a.project ≡ b.project → a.server ≡ b.server → a.fields ≡ b.fields → a ≡ b
config_by a b p s f = λ i. record { project = p i; server = s i; fields = f i }

-- what the comparing of two texts tells
pub same_told : (a b : List ℕ) (told : Bool) → told ≡ not (bytes_eq a b) → told ≡ false → a ≡ b
same_told a b told is none = (bytes_decides a b).0 (not-false (bytes_eq a b) (sym is ∙ none))
