-- What a failed call leaves of a clause.
use Rattle.std.proofs.Common.{◌≡◌, ◌∙◌, ℕ, List, reverse, Option, Some, Result, Ok, Err, sym, subst}
use Rattle.std.specs.Prelude.{IsErrAnd, OnOk, OnErr}
use Rattle.fsl_text.specs.declared.memory.Memory.{Memory}
use Rattle.fsl_disk.specs.History.{AreKept, Past, beginning}
use Rattle.fsl_disk.specs.declared.change.Change.{Change}

module _ {X : Type 0} (r : Result X Memory) (Q : Memory → Type 0) (failed : IsErrAnd r Q) (P : Type 0) where
  pub no_success : OnOk r P
  no_success = by r failed
    where
      by : (r : Result X Memory) → IsErrAnd r Q → OnOk r P
      by (Ok x) h = absurd h
      by (Err e) h = tt

  pub on_failure : P → OnErr r P
  on_failure p = by r
    where
      by : (r : Result X Memory) → OnErr r P
      by (Ok x) = tt
      by (Err e) = p

-- ---- a history whose change failed

module _ (held first : Option (List ℕ)) (bytes now : List ℕ) (changes kept : List Change) (synced : ℕ) (is_first : first ≡ Some (beginning held bytes)) (same : kept ≡ changes) (still : now ≡ bytes) where
  pub kept_still : AreKept (beginning held bytes) changes synced bytes → AreKept (beginning first now) kept synced now
  kept_still before =
      subst (λ (l : List ℕ). AreKept (beginning first l) kept synced l) (sym still)
      (subst (λ (l : List Change). AreKept (beginning first bytes) l synced bytes) (sym same)
      (subst (λ (o : Option (List ℕ)). AreKept (beginning o bytes) changes synced bytes) (sym is_first) before))

  abbrev pub past : Option (List ℕ) → List ℕ → List Change → Past
  past o l cs = record { first = beginning o l; changes = reverse cs }

  pub seen_still : (value : Past) → past held bytes changes ≡ value → past first now kept ≡ value
  seen_still value seen = (λ i. past (is_first i) (still i) (same i)) ∙ seen
