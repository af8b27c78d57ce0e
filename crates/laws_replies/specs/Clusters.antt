-- What a cluster that is made is as an artifact.
use Rattle.std.specs.Prelude.{◌≡◌, ℕ, List, map}
use Rattle.fsl_name.specs.declared.reference.Ref.TheVariants.{Own}
use Rattle.fsl_cluster.specs.Clusters.{AreMembers, cluster_text}
use Rattle.fsl_forms.specs.Writing.{AreNames}
use Rattle.fsl_artifact.specs.declared.Artifact.{Artifact}
use Rattle.fsl_artifact.specs.declared.Artifact.TheVariants.{Cluster}
use Rattle.fsl_artifact.specs.Kind.{IsKind}
use Rattle.fsl_artifact.specs.References as references

-- the cluster with an M card for each of these names, in their order
abbrev pub cluster_of : List (List ℕ) → Artifact
cluster_of names = Cluster (record { members = map Own names })

-- the text is that cluster, and these names are its members
pub record IsClusterOf (names : List (List ℕ)) (text : List ℕ) : Type 0 where
  pub kind : IsKind text (cluster_of names)
  pub members : references.members (cluster_of names) ≡ names

-- ---- a law

-- the text that is made of names is the cluster of these names
abbrev pub MadeClustersRead : Type 0
MadeClustersRead = (names : List (List ℕ)) → AreMembers names → AreNames names → IsClusterOf names (cluster_text names)
