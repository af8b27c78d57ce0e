-- The touches of an arrival.
use Rattle.std.proofs.Common.{◌≡◌, ℕ, ◌+◌, ◌*◌, ◌≤◌, Bool, true, false, cond, List, length, Option, Some, None, refl, sym, subst, arith}
use Rattle.std.specs.Prelude.{◌&&◌, IfSome}
use Rattle.fsl_artifact.specs.declared.Artifact.{Artifact}
use Rattle.fsl_artifact.specs.declared.Artifact.TheVariants as kind
use Rattle.fsl_artifact.specs.Kind.{IsKind}
use Rattle.fsl_artifact.specs.References.{references}
use Rattle.fsl_artifact.proofs.OneKind.{one_artifact}
use Rattle.fsl_cross.specs.declared.Item.{Item}
use Rattle.fsl_cross.specs.Touches.{touches_of, add_touches, is_unnamed, are_own, checkin_size}
use Rattle.fsl_repo.specs.Touches.{IsWithin, item_of}

if_some : (o : Option ℕ) (P : ℕ → Type 0) → ((most : ℕ) → o ≡ Some most → P most) → IfSome o P
if_some None P h = tt
if_some (Some most) P h = h most refl

of_some : (o : Option ℕ) (P : ℕ → Type 0) (most : ℕ) → o ≡ Some most → IfSome o P → P most
of_some None P most e h = cc
of_some (Some n) P most e h = let same : n ≡ most = cc in subst P same h

-- a stated bound is 16 touches at least
under_test : (b : Bool) (k most : ℕ) → 16 ≤ k → cond b (Some k) None ≡ Some most → 16 ≤ most
under_test true k most le e = let same : k ≡ most = cc in omega arith
under_test false k most le e = cc

bound_is_some : (items : List Item) (name : List ℕ) (a : Artifact) (most : ℕ) → touches_of items name a ≡ Some most → 16 ≤ most
bound_is_some items name kind.Plain most e = let same : 16 ≡ most = cc in omega arith
bound_is_some items name (kind.Manifest m) most e =
    under_test (is_unnamed items name && are_own m.tags) (64 * (1 + length (references (kind.Manifest m)) + checkin_size items m)) most (omega arith) e
bound_is_some items name (kind.Wiki w) most e = let same : 64 * (1 + length (references (kind.Wiki w))) ≡ most = cc in omega arith
bound_is_some items name (kind.Cluster x) most e = cc
bound_is_some items name (kind.Control x) most e = cc
bound_is_some items name (kind.Ticket x) most e = cc
bound_is_some items name (kind.Attachment x) most e = cc
bound_is_some items name (kind.Technote x) most e = cc
bound_is_some items name (kind.Forum x) most e = cc

module _ (items : List Item) (name : List ℕ) (private : Bool) (bytes : List ℕ) (old new : ℕ) where
  -- up to 32 touches are within each bound
  pub few_within : new ≤ old + 32 → IsWithin items name private bytes old new
  few_within few a is =
      if_some (add_touches items (item_of name private a)) (λ most. new ≤ old + 2 * most)
      (λ most e. let le : 16 ≤ most = bound_is_some items name a most e in omega arith)

  -- one touch, and those of adding
  pub added_within : (parsed : ℕ) (a : Artifact) → parsed ≡ old + 1 → IsKind bytes a → IfSome (add_touches items (item_of name private a)) (λ most. new ≤ parsed + most) → IsWithin items name private bytes old new
  added_within parsed a one is added b also =
      if_some (add_touches items (item_of name private b)) (λ most. new ≤ old + 2 * most)
      (λ most e.
      let le : 16 ≤ most = bound_is_some items name b most e in
      let same : b ≡ a = one_artifact bytes b a also is in
      let cost : new ≤ parsed + most =
      of_some (add_touches items (item_of name private b)) (λ most. new ≤ parsed + most) most e
      (subst (λ (x : Artifact). IfSome (add_touches items (item_of name private x)) (λ most. new ≤ parsed + most)) (sym same) added) in
      omega arith)
