-- What is read and written as a whole.
use Rattle.std.specs.Prelude.{◌≡◌, ◌<◌, ℕ, List, ◌++◌, length, Option}
use Rattle.std.specs.Io.KnownBytes.{Appends, Consumes}
use Rattle.fsl_order.specs.Causes.{Rose}
use Rattle.fsl_outside.specs.declared.whole.ReadFault.{ReadFault}
use Rattle.fsl_outside.specs.declared.whole.ReadFault.TheVariants.{Failed, Memory}

-- known bytes grow by a front of the text
abbrev pub AppendsFront : Option (List ℕ) → Option (List ℕ) → List ℕ → Type 0
AppendsFront old new text = (front : List ℕ) × (rest : List ℕ) × (text ≡ front ++ rest) × Appends old new front

-- known bytes lose some bytes at their front
abbrev pub ConsumesSome : Option (List ℕ) → Option (List ℕ) → Type 0
ConsumesSome old new = (front : List ℕ) × Consumes old new front

-- known bytes lose more bytes at their front than the limit
abbrev pub ConsumesMore : ℕ → Option (List ℕ) → Option (List ℕ) → Type 0
ConsumesMore limit old new = (front : List ℕ) × (limit < length front) × Consumes old new front

-- a failure comes only where the count rose, and want of memory leaves it
abbrev pub FailsBy : ℕ → ℕ → ReadFault → Type 0
FailsBy before now Failed = Rose before now
FailsBy before now Memory = now ≡ before
