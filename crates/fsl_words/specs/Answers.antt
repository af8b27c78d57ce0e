-- What a reader of words answers.
use Rattle.std.specs.Prelude.{◌≡◌, Option, Some, None, Result, Ok, Err, ⊤}
use Rattle.fsl_words.specs.declared.WordsFault.{WordsFault}
use Rattle.fsl_words.specs.declared.WordsFault.TheVariants.{Usage, Memory}

-- the value that there is; `Usage` where there is none; want of memory has no cause
abbrev pub IsAnswer : {X : Type 0} → Option X → Result X WordsFault → Type 0
IsAnswer wanted (Ok value) = wanted ≡ Some value
IsAnswer wanted (Err Usage) = wanted ≡ None
IsAnswer wanted (Err Memory) = ⊤
