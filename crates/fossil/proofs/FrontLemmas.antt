-- What is read of a source piece by piece.
use Rattle.std.proofs.Common.{◌≡◌, ℕ, ◌+◌, ◌≤◌, List, [], ◌++◌, length, take, Option, false, Result, Ok, Err, sym, ap, subst, ◌∙◌, arith, length-append}
use Rattle.std.specs.Prelude.{if◌then◌else◌, is_ok, is_err}
use Rattle.std.specs.Io.KnownBytes.{Consumes}
use Rattle.std.proofs.lemmas.List.{append-nil, length-take-le}
use Rattle.fsl_outside.proofs.WholeLemmas.{IsReadTo, Consumes-twice}

-- what is appended stands there where that didn't fail
pub grown_by : {X E : Type 0} (r : Result X E) (next text more : List ℕ) → is_err r ≡ false → next ≡ (if is_ok r then text ++ more else text) → next ≡ text ++ more
grown_by (Ok x) next text more none grown = grown
grown_by (Err e) next text more none grown = absurd (cc)

module _ (old mid new : Option (List ℕ)) (before so_far turns limit count : ℕ) (text piece next : List ℕ) (is : IsReadTo old mid before so_far turns limit text) (more : Consumes mid new (take count piece)) where
  -- one piece more was read
  pub read_on : next ≡ text ++ take count piece → Consumes old new next
  read_on grown = subst (Consumes old new) (sym grown) (Consumes-twice old mid new text (take count piece) is.read more)

  -- no byte more was
  pub read_out : count ≡ 0 → next ≡ text → Consumes old new next
  read_out none same =
      let empty : take count piece ≡ [] = ap (λ (n : ℕ). take n piece) none in
      read_on (same ∙ sym (append-nil text) ∙ ap (λ (l : List ℕ). text ++ l) (sym empty))

  -- the loop's next turn
  pub read_more : (now : ℕ) → now ≡ so_far → (count ≡ 0 → ⊥) → count ≤ length piece → next ≡ text ++ take count piece → length next ≤ limit → IsReadTo old new before now (turns + 1) limit next
  read_more now same some bound grown within =
      let size : length next ≡ length text + count = ap length grown ∙ length-append text (take count piece) ∙ ap (λ (n : ℕ). length text + n) (length-take-le count piece bound) in
      record { read = read_on grown; same = same ∙ is.same; turn = omega (arith, size, is.turn, some); within = within }
