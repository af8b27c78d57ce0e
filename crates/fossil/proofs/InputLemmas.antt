-- What was read of an input.
use Rattle.std.proofs.Common.{◌≡◌, ℕ, ◌^◌, ◌<◌, ◌≤◌, true, false, List, [], ◌++◌, length, Option, Some, None, refl, sym, ap, ◌∙◌, arith, length-append}
use Rattle.std.specs.Prelude.{nat_lt, IfSome, IfNone}
use Rattle.std.specs.Io.KnownBytes.{Consumes, IsAtEnd}
use Rattle.std.proofs.lemmas.List.{append-nil}
use Rattle.fsl_outside.specs.Whole.{ConsumesMore}
use Rattle.fossil.specs.Run.{Input, IsInputSteady, Agrees}
use Rattle.fossil.specs.Acts.{IsInput}

-- some bytes, where none are told
pub some_bytes : (told : Option (List ℕ)) → (read : List ℕ) × Agrees told read
some_bytes None = ([], tt)
some_bytes (Some bytes) = (bytes, refl)

-- ---- inputs that are too long

longer : (n limit : ℕ) → limit < n → nat_lt limit n ≡ true
longer n limit h = grind (arith)

long_input : (before after : Option (List ℕ)) → ConsumesMore (2 ^ 27) before after → (read : List ℕ) × Agrees before read × (nat_lt (2 ^ 27) (length read) ≡ true)
long_input None after more = (more.0, tt, longer (length more.0) (2 ^ 27) more.1)
long_input (Some bytes) None more = absurd more.2
long_input (Some bytes) (Some rest) more =
    (bytes, refl, longer (length bytes) (2 ^ 27) (let n = ap length more.2 in let m = length-append more.0 rest in let k = more.1 in omega (arith, n, m, k)))

-- ---- inputs that were read

whole_input : (before after : Option (List ℕ)) (text : List ℕ) → Consumes before after text → IsAtEnd after → Agrees before text
whole_input None after text read end = tt
whole_input (Some bytes) None text read end = absurd read
whole_input (Some bytes) (Some rest) text read end = sym (read ∙ ap (λ (t : List ℕ). text ++ t) end ∙ append-nil text)

shorter : (n limit : ℕ) → n ≤ limit → nat_lt limit n ≡ false
shorter n limit h = grind (arith)

pub input_read : (input : Input) (o : Option (List ℕ)) → IfSome o (λ text. Consumes input.before.left input.after.left text) → IfSome o (λ _. IsAtEnd input.after.left) → IfSome o (λ text. length text ≤ 2 ^ 27)
    → IfNone o (ConsumesMore (2 ^ 27) input.before.left input.after.left) → IsInputSteady input → IsInput input o
input_read input None whole end within long input_steady = let far = long_input input.before.left input.after.left long in (far.0, far.1, far.2, input_steady)
input_read input (Some text) whole end within long input_steady = (whole_input input.before.left input.after.left text whole end, end, shorter (length text) (2 ^ 27) within, input_steady)
