-- The lines of a list.
use Rattle.std.proofs.Common.{◌≡◌, ℕ, List, [], ◌∷◌, ◌++◌, map, sym, ap, ◌∙◌, append_assoc}
use Rattle.std.proofs.lemmas.List.{append-nil, map-append}
use Rattle.fsl_uv.specs.Entries.{Version}
use Rattle.fsl_uv.specs.Reports.{line_of, listed}

listed-last : (m : List (List ℕ × Version)) (e : List ℕ × Version) → listed (m ++ e ∷ []) ≡ listed m ++ line_of e
listed-last [] e = append-nil (line_of e)
listed-last (d ∷ m) e = ap (λ (t : List ℕ). line_of d ++ t) (listed-last m e) ∙ sym (append_assoc (line_of d) (listed m) (line_of e))

module _ {Y : Type 0} (shows : Y → List ℕ × Version) where
  pub listed_more : (ys : List Y) (y : Y) (text new : List ℕ) → text ≡ listed (map shows ys) → new ≡ text ++ line_of (shows y) → new ≡ listed (map shows (ys ++ y ∷ []))
  listed_more ys y text new before added =
      added ∙ ap (λ (t : List ℕ). t ++ line_of (shows y)) before ∙ sym (listed-last (map shows ys) (shows y)) ∙ ap listed (sym (map-append shows ys (y ∷ [])))
