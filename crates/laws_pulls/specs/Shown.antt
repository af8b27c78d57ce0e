-- What two repositories hold in common, and when they show the same.
use Rattle.std.specs.Prelude.{◌≡◌, ℕ, ◌<◌, Bool, true, false, IsTrue, List, Some, None}
use Rattle.std.specs.FinMap as map_of
use Rattle.std.specs.FinSet as set
use Rattle.fsl_order.specs.Names.{has}
use Rattle.fsl_artifact.specs.declared.Artifact.{Artifact}
use Rattle.fsl_artifact.specs.Kind.{IsKind}
use Rattle.fsl_artifact.specs.References.{members}
use Rattle.fsl_blobs.specs.Fold.{Held, Contents, is_new}
use Rattle.fsl_cross.specs.declared.Item.{Item}
use Rattle.fsl_repo.specs.Machine.{AreItems}
use Rattle.fsl_pull.specs.Pushes.{is_public}
use Rattle.fsl_words.specs.declared.Question.{Question}
use Rattle.fsl_words.specs.declared.Question.TheVariants.{Receipt, Info}
use Rattle.fsl_query.specs.Reports.{report}

-- ---- clusters

-- the cluster is held, and this name stands in one of its M cards
pub record IsIn (c : Contents) (cluster name : List ℕ) : Type 0 where
  pub held : Held
  pub is_held : map_of.get c.held cluster ≡ Some held
  pub artifact : Artifact
  pub kind : IsKind held.bytes artifact
  pub member : IsTrue (has (members artifact) name)

-- no cluster is in itself, be it through others: by the order in which they were made, each cluster comes behind what stands in it. Whoever makes a cluster
-- knows the names that he puts into it, so that a circle of them would be one of names of texts that have each other's names in them
abbrev pub AreMadeBy : (List ℕ → ℕ) → Contents → Type 0
AreMadeBy made c = (cluster name : List ℕ) → IsIn c cluster name → made name < made cluster

-- each cluster that is held there is public, and not shunned here
abbrev pub ClustersCome : Contents → Contents → Type 0
ClustersCome there here =
    (cluster name : List ℕ) → IsIn there cluster name → IsTrue (is_public there cluster) × (set.contains here.shunned cluster ≡ false)

-- ---- artifacts

-- no name that both hold has two contents
abbrev pub Agree : Contents → Contents → Type 0
Agree a b = (name : List ℕ) (x y : Held) → map_of.get a.held name ≡ Some x → map_of.get b.held name ≡ Some y → x.bytes ≡ y.bytes

-- all artifacts are public, and no name is shunned
pub record IsOpen (c : Contents) : Type 0 where
  pub public : (name : List ℕ) (a : Held) → map_of.get c.held name ≡ Some a → a.private ≡ false
  pub unshunned : (name : List ℕ) → set.contains c.shunned name ≡ false

-- an artifact is still held with its content, and is public where it was
pub record StaysHeld (c : Contents) (name : List ℕ) (a : Held) : Type 0 where
  pub now : Held
  pub is_held : map_of.get c.held name ≡ Some now
  pub same : now.bytes ≡ a.bytes
  pub public : a.private ≡ false → now.private ≡ false

-- what was held is held, with its content, and what else is held is a public artifact of the peer; nothing else changes but receipts
pub record Gains (before there after : Contents) : Type 0 where
  pub kept : (name : List ℕ) (a : Held) → map_of.get before.held name ≡ Some a → StaysHeld after name a
  pub brought : (name : List ℕ) (a : Held) → map_of.get before.held name ≡ None → map_of.get after.held name ≡ Some a →
      (a.private ≡ false) × (map_of.get there.held name ≡ Some a)
  pub shunned : after.shunned ≡ before.shunned
  pub config : after.config ≡ before.config

-- and each public artifact of the peer is held, unless its name is shunned
pub record GainsAll (before there after : Contents) : Type 0 where
  pub gains : Gains before there after
  pub all : (name : List ℕ) → IsTrue (is_public there name) → is_new after name ≡ false

-- ---- reports

-- whether a question is one of the file and not of what it holds: when an artifact was brought here, and the codes of the file
abbrev pub is_of_file : Question → Bool
is_of_file (Receipt prefix) = true
is_of_file Info = true
is_of_file question = false

-- both hold the same artifacts, and each report of the one is that of the other, but for those of the file
pub record ShowTheSame (a b : Contents) : Type 0 where
  pub held : a.held ≡ b.held
  pub reports : (question : Question) → is_of_file question ≡ false → (xs ys : List Item) → AreItems a.held xs → AreItems b.held ys →
      report a xs question ≡ report b ys question
