-- A post that isn't valid stays so.
use mathlib.Core.Bool.{true≢false}
use Rattle.std.specs.Prelude.{◌≡◌, ℕ, List, ◌∷◌, Some, None, is_some, option_and_then}
use Rattle.std.proofs.Common.{refl, sym, ap, ◌∙◌}
use Rattle.fsl_order.specs.Rows.{by_name}
use Rattle.fsl_order.proofs.NamedLemmas.{named-by_name}
use Rattle.fsl_order.proofs.RowLemmas.{is_some-named}
use Rattle.fsl_forum.specs.declared.Fact.{Fact}
use Rattle.fsl_forum.specs.Threads.{post, end, place, InvalidStays}
use Rattle.fsl_forum.specs.Kept.{place_by}
use Rattle.fsl_forum.proofs.ChainLaw.{end-alike, post-same, whole_stays}

-- the place of a post by the posts and the ends
pub place-alike : (facts others : List Fact) (x : List ℕ) → post facts x ≡ post others x → ((y : List ℕ) → end facts y ≡ end others y) → place facts x ≡ place others x
place-alike facts others x same ends = λ i. option_and_then (λ f. place_by (ends f.name i) f) (same i)

pub invalid_stays : InvalidStays
invalid_stays facts more x there new none =
    place-alike (by_name (λ f. f.name) (more ∷ facts)) (more ∷ facts) x (named-by_name (λ f. f.name) (more ∷ facts) x)
    (end-alike (by_name (λ f. f.name) (more ∷ facts)) (more ∷ facts) (λ y. named-by_name (λ f. f.name) (more ∷ facts) y))
    ∙ elim (post facts x) as (λ o. post facts x ≡ o → option_and_then (λ f. place_by (end facts f.name) f) o ≡ None → place (more ∷ facts) x ≡ None) [
      | None ↦ λ p _. absurd (true≢false (sym there ∙ sym (is_some-named (λ f. f.name) facts x) ∙ ap is_some p))
      | Some f ↦ λ p n.
          ap (option_and_then (λ f. place_by (end (more ∷ facts) f.name) f)) (post-same facts more new x f p)
          ∙ elim (end facts f.name) as (λ o. end facts f.name ≡ o → place_by o f ≡ None → place_by (end (more ∷ facts) f.name) f ≡ None) [
            | None ↦ λ _ q. cc
            | Some w ↦ λ e q. ap (λ o. place_by o f) (whole_stays facts more f.name w new e) ∙ q
          ] refl n
    ] refl none
