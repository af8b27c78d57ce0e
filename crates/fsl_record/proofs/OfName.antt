-- What a test of a blob's name tells.
use Rattle.std.proofs.Common.{◌≡◌, ◌≢◌, ℕ, Bool, true, false, List, refl, sym, ◌∙◌}
use Rattle.std.specs.Prelude.{not}
use Rattle.std.specs.Str.{bytes_eq}
use Rattle.std.specs.Cmp.Lexicographic.{bytes_decides}

other_way : (equal : Bool) → not equal ≡ true → equal ≡ true → ⊥
other_way true n e = cc
other_way false n e = cc

equal_then : (equal : Bool) → not equal ≡ false → equal ≡ true
equal_then true n = refl
equal_then false n = absurd cc

module _ (kept found content : List ℕ) (differs : Bool) (test : differs ≡ not (bytes_eq kept found)) (is : found ≡ content) where
  pub other_name : differs ≡ true → kept ≢ content
  other_name wrong same = other_way (bytes_eq kept found) (sym test ∙ wrong) ((bytes_decides kept found).1 (same ∙ sym is))

  pub same_name : differs ≡ false → kept ≡ content
  same_name right = (bytes_decides kept found).0 (equal_then (bytes_eq kept found) (sym test ∙ right)) ∙ is
