-- How held names are looked through.
use Rattle.std.specs.Prelude.{ℕ, List, Bool, take, length}
use Rattle.std.specs.Str.{bytes_eq}
use Rattle.std.specs.Option.{option_map_or}
use Rattle.fsl_name.specs.Name.{name_text}
use Rattle.fsl_blobs.specs.declared.Placed.{Placed}
use Rattle.fsl_blobs.specs.declared.Holding.{Holding}
use Rattle.fsl_blobs.specs.declared.blobs.HeldArtifact.{HeldArtifact}
use Rattle.fsl_blobs.specs.Fold.{Held}
use Rattle.fsl_blobs.specs.Kept.{artifact_of, held_at}

-- whether a name's digits begin with the prefix
abbrev pub begins : List ℕ → List ℕ → Bool
begins prefix name = bytes_eq (take (length prefix) (name_text name)) prefix

-- a place with its name
abbrev pub pair_of : Placed → ℕ × List ℕ
pair_of p = (p.place, p.name)

-- the place of a held artifact, with its name
abbrev pub place_of : List ℕ × HeldArtifact → ℕ × List ℕ
place_of e = (e.1.place, e.0)

-- the size of the artifact of a name, or 0
abbrev pub size_at : List (List ℕ × HeldArtifact) → List ℕ → ℕ
size_at entries name = option_map_or (λ a. a.size) (held_at entries name) 0

-- a held artifact without its place, under its name
abbrev pub entry_of : List ℕ × HeldArtifact → List ℕ × Held
entry_of e = (e.0, artifact_of e.1)

-- what is known of a held artifact, beside its privacy: its name, its place, its size, and its bytes as clauses see them
abbrev pub Known : Type 0
Known = List ℕ × ℕ × ℕ × List ℕ

abbrev pub known_as : Holding → Known
known_as h = (h.name, h.place, h.size, h.bytes.now.value)

abbrev pub known_of : List ℕ × HeldArtifact → Known
known_of e = (e.0, e.1.place, e.1.size, e.1.bytes.value)
