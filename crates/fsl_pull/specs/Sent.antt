-- What clauses see of the names that a push has sent, and how the names to send are chosen.
use Rattle.std.specs.Prelude.{◌≡◌, ℕ, Bool, true, List, cond, Option, Some, None, length}
use Rattle.fsl_order.specs.Names.{has}
use Rattle.fsl_blobs.specs.Kept.{is_same, stands}
use Rattle.fsl_blobs.specs.declared.BlobState.{BlobState}
use Rattle.fsl_blobs.specs.declared.BlobState.TheVariants as blob

-- names in the order of their sending, and as a set
pub record SentNames : Type 0 where
  pub order : List (List ℕ)
  pub set : List (List ℕ)

-- the set has the names of the list
abbrev pub AreSame : SentNames → Type 0
AreSame sent = (q : List ℕ) → has sent.order q ≡ stands sent.set q

-- these names are those and one more
abbrev pub IsWith : List (List ℕ) → List ℕ → List (List ℕ) → Type 0
IsWith more name names = (q : List ℕ) → stands more q ≡ cond (is_same name q) true (stands names q)

-- the size of a public artifact, by what its name is
abbrev pub public_size : BlobState → Option ℕ
public_size (blob.Public size) = Some size
public_size state = None
