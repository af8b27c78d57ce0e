-- What an artifact is: a whole text of one of the eight kinds, or else plain content.
use Rattle.std.specs.Prelude.{◌≡◌, ℕ, List}
use Rattle.fsl_card.specs.Cards.{IsCards}
use Rattle.fsl_card.specs.declared.types.Card.{Card}
use Rattle.fsl_manifest.specs.Manifests.{IsManifest}
use Rattle.fsl_forms.specs.Kinds.{IsCluster, IsControl, IsWiki, IsTicket, IsAttachment, IsTechnote, IsForum}
use Rattle.fsl_artifact.specs.declared.Artifact.{Artifact}
use Rattle.fsl_artifact.specs.declared.Artifact.TheVariants.{Plain, Manifest, Cluster, Control, Wiki, Ticket, Attachment, Technote, Forum}

-- the cards are the value of one of the eight kinds
abbrev pub AreOfKind : List Card → Artifact → Type 0
AreOfKind cards Plain = ⊥
AreOfKind cards (Manifest m) = IsManifest cards m
AreOfKind cards (Cluster c) = IsCluster cards c
AreOfKind cards (Control c) = IsControl cards c
AreOfKind cards (Wiki w) = IsWiki cards w
AreOfKind cards (Ticket t) = IsTicket cards t
AreOfKind cards (Attachment a) = IsAttachment cards a
AreOfKind cards (Technote n) = IsTechnote cards n
AreOfKind cards (Forum f) = IsForum cards f

-- the text is of one of the eight kinds, with this value
abbrev pub IsOfKind : List ℕ → Artifact → Type 0
IsOfKind text a = (cards : List Card) × IsCards text cards × AreOfKind cards a

-- what the text is: plain where it is of no kind
abbrev pub IsKind : List ℕ → Artifact → Type 0
IsKind text Plain = (a : Artifact) → IsOfKind text a → ⊥
IsKind text a = IsOfKind text a

-- ---- laws

-- a text is one artifact at most
abbrev pub IsOneAtMost : (List ℕ → Artifact → Type 0) → Type 0
IsOneAtMost IsWhat = (text : List ℕ) (a b : Artifact) → IsWhat text a → IsWhat text b → a ≡ b

abbrev pub IsOneArtifact : Type 0
IsOneArtifact = IsOneAtMost IsKind

-- a text has one value of one kind at most, so that no text is of two kinds
abbrev pub IsOfOneKind : Type 0
IsOfOneKind = IsOneAtMost IsOfKind

-- each text is some artifact, so that what it is can be had as a function of the text
abbrev pub IsSomeArtifact : Type 0
IsSomeArtifact = (text : List ℕ) → (a : Artifact) × IsKind text a
