-- What an opening and a commit leave of what was reached.
use Rattle.std.specs.Prelude.{◌≡◌, ◌⊎◌, ℕ, Bool, true, false, ◌≤◌, List, ◌∷◌, ◌++◌, IsTrue, Some}
use Rattle.std.proofs.Common.{inl, inr, refl, subst, arith}
use Rattle.fsl_disk.specs.Disk.{DiskState, IsModelled, Keeps, LeavesOnly}
use Rattle.fsl_disk.proofs.Moments.{told_contents, modelled_after, weaker, and_then}
use Rattle.fsl_record.specs.declared.Record.{Record}
use Rattle.fsl_journal.specs.File.{IsFileOf}
use Rattle.fsl_journal.specs.Journal.{OfBytes, HeldOrSame}
use Rattle.fsl_journal.specs.Laws.{IsOneFile}
use Rattle.laws_openings.specs.declared.living.Ending.{Ending}
use Rattle.laws_openings.specs.Chain.{Puts, Try, Reached, StandsReached, AreReached, try_of}
use Rattle.laws_openings.specs.Lives.{IsTried, group_in, is_done}

module _ {W : Type 0} (puts : Puts W) (low high : List Record) (tries : List (Try W)) where
  module _ (one_file : IsOneFile) (disk : DiskState) (modelled : IsModelled disk)
      (reads : (held : List ℕ) → disk.contents ≡ Some held → disk.images held) (here : AreReached puts low high tries disk.images) where
    -- the records that the contents stand for are reached
    pub reached_by : (records : List Record) → OfBytes disk (λ bytes. IsFileOf bytes records) → Reached puts low high tries records
    reached_by records read =
        let told = told_contents disk modelled in
        let stands = here told.0 (reads told.0 told.1) in
        subst (Reached puts low high tries) (one_file told.0 stands.0 records stands.1 (subst (λ bytes. IsFileOf bytes records) (read.1 told.0 told.1) read.2)) stands.2

    -- what an opening leaves stands for what was reached
    pub opened_reached : (c : List ℕ) → HeldOrSame disk c → StandsReached puts low high tries c
    opened_reached c (inl image) = here c image
    opened_reached c (inr same) = (same.0, same.2, reached_by same.0 same.1)

  -- and so with one more try of which nobody heard
  pub unheard : (work : W) (group : List Record) (c : List ℕ) → StandsReached puts low high tries c → StandsReached puts low high (try_of work false group ∷ tries) c
  unheard work group c stands = (stands.0, stands.1, inr (refl, stands.2))

  module _ (work : W) (loaded group : List Record) (reached : Reached puts low high tries loaded) where
    -- a file of all records has the try behind what was loaded
    pub all_reached : (heard : Bool) → puts work loaded group → (c : List ℕ) → IsFileOf c (loaded ++ group) → StandsReached puts low high (try_of work heard group ∷ tries) c
    all_reached heard fits c file = (loaded ++ group, file, inl (loaded, reached, fits, refl))

    -- at each moment of the commit
    pub before_or_all : (c : List ℕ) → IsFileOf c loaded ⊎ (puts work loaded group × IsFileOf c (loaded ++ group)) → StandsReached puts low high (try_of work false group ∷ tries) c
    before_or_all c (inl file) = (loaded, file, inr (refl, reached))
    before_or_all c (inr all) = all_reached false all.0 c all.1

-- an opening that leaves no repository
module _ {W : Type 0} (puts : Puts W) (one_file : IsOneFile) (before after : DiskState) (modelled : IsModelled before)
    (reads : (held : List ℕ) → before.contents ≡ Some held → before.images held) (harmless : LeavesOnly before after (HeldOrSame before)) where
  pub opened_moments : (work : W) (group low high : List Record) (tries : List (Try W)) → AreReached puts low high tries before.images
      → LeavesOnly before after (StandsReached puts low high (try_of work false group ∷ tries))
  opened_moments work group low high tries here =
      weaker before after (HeldOrSame before) (StandsReached puts low high (try_of work false group ∷ tries))
      (λ c left. unheard puts low high tries work group c (opened_reached puts low high tries one_file before modelled reads here c left)) harmless

-- an opening, some work and a commit
module _ {W D : Type 0} (puts : Puts W) (one_file : IsOneFile) (work : W) (loaded : List Record) (e : Ending D) (before mid after : DiskState) (modelled : IsModelled before)
    (reads : (held : List ℕ) → before.contents ≡ Some held → before.images held) (harmless : LeavesOnly before mid (HeldOrSame before)) (keeps : Keeps before mid)
    (stands : OfBytes before (λ bytes. IsFileOf bytes loaded)) (commit : IsTried (puts work) loaded e mid after) where
  pub life_later : before.moment ≤ after.moment
  life_later = omega (arith, harmless.later, (commit.any_moment (modelled_after before mid keeps modelled)).later)

  module _ (low high : List Record) (tries : List (Try W)) (here : AreReached puts low high tries before.images) where
    reached : Reached puts low high tries loaded
    reached = reached_by puts low high tries one_file before modelled reads here loaded stands

    pub life_moments : LeavesOnly before after (StandsReached puts low high (try_of work false (group_in e) ∷ tries))
    life_moments =
        and_then before mid after (StandsReached puts low high (try_of work false (group_in e) ∷ tries))
        (opened_moments puts one_file before mid modelled reads harmless work (group_in e) low high tries here)
        (weaker mid after (λ c. IsFileOf c loaded ⊎ (puts work loaded (group_in e) × IsFileOf c (loaded ++ group_in e))) (StandsReached puts low high (try_of work false (group_in e) ∷ tries))
        (before_or_all puts low high tries work loaded (group_in e) reached) (commit.any_moment (modelled_after before mid keeps modelled)))

    pub life_done : IsTrue (is_done e) → AreReached puts low high (try_of work true (group_in e) ∷ tries) after.images
    life_done ok c image =
        let durable = commit.durable ok in
        all_reached puts low high tries work loaded (group_in e) reached true durable.0 c (durable.1 (modelled_after before mid keeps modelled) c image)
