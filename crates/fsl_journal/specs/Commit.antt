-- What a crash leaves while a group is written behind a closed gate and the gate is opened.
use Rattle.std.specs.Prelude.{◌≡◌, ◌⊎◌, ℕ, ◌+◌, ◌==◌, List, [], ◌∷◌, ◌++◌, length, take, drop, if◌then◌else◌, Some, IsTrue}
use Rattle.std.specs.Int.{to_be_bytes, w64}
use Rattle.fsl_disk.specs.Disk.{DiskState, Told, Begins}
use Rattle.fsl_journal.specs.File.{mark_1, mark_2, open_gate}

-- a number in 8 bytes, the greatest first
unfoldable pub eight : ℕ → List ℕ
eight n = to_be_bytes w64 n

-- what is written behind the closed gate: a length, the bytes of records, and a new closed gate
abbrev pub body_of : List ℕ → List ℕ
body_of bytes = eight (length bytes) ++ bytes ++ 0x43 ∷ []

-- the contents with the byte at the place changed, and a body behind it
abbrev pub gated : List ℕ → ℕ → ℕ → List ℕ → List ℕ
gated held place gate body = take place held ++ gate ∷ body

-- what was held and anything behind it; or the body whole behind its gate, whatever the gate's byte
abbrev pub HeldOrGated : List ℕ → ℕ → List ℕ → List ℕ → Type 0
HeldOrGated held place body c = Begins held c ⊎ ((gate : ℕ) × (c ≡ gated held place gate body))

-- the last byte of the contents stands at this place, and each image begins with the contents
pub record EndsAt (place : ℕ) (disk : DiskState) : Type 0 where
  pub last : Told disk (λ held. length held ≡ place + 1)
  pub images : IsTrue disk.is_model → Told disk (λ held. (c : List ℕ) → disk.images c → Begins held c)

-- the contents with this byte in their header in place of the one that tells the version
abbrev pub marked : ℕ → List ℕ → List ℕ
marked mark held = take 13 held ++ mark ∷ drop 14 held

-- what was held with some such byte, and anything behind it
abbrev pub HeldOrMarked : List ℕ → List ℕ → Type 0
HeldOrMarked held c = (mark : ℕ) × Begins (marked mark held) c

-- the contents as a commit carries them over to version 2
abbrev pub carried : ℕ → List ℕ → List ℕ
carried mark held = if mark == mark_1 then marked mark_2 held else held

-- what a commit of bytes at this place makes of the contents: carried over, with an open gate in place of the closed one, and the body behind it
abbrev pub CarriesGroup : ℕ → ℕ → List ℕ → DiskState → DiskState → Type 0
CarriesGroup mark place bytes before after = Told before (λ held. after.contents ≡ Some (gated (carried mark held) place open_gate (body_of bytes)))

-- what a crash leaves while a file is carried over: what was held with some byte there; a file of another version stays
abbrev pub OnTheWay : ℕ → List ℕ → List ℕ → Type 0
OnTheWay mark held c = ((mark ≡ mark_1) × HeldOrMarked held c) ⊎ Begins (carried mark held) c

-- what a crash leaves of a commit: what was held, carried over or on the way to it, or the body whole behind its gate
abbrev pub HeldOrCarried : ℕ → List ℕ → ℕ → List ℕ → List ℕ → Type 0
HeldOrCarried mark held place body c = ((mark ≡ mark_1) × HeldOrMarked held c) ⊎ HeldOrGated (carried mark held) place body c
