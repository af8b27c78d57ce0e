-- What a commit behind some work leaves, by what the calls say.
use Rattle.std.specs.Prelude.{◌≡◌, ◌⊎◌, ℕ, true, false, List, ◌++◌, length, take, drop, IsTrue}
use Rattle.std.proofs.Common.{inl, inr, refl, sym, ap, subst, ◌∙◌}
use Rattle.std.proofs.Math.Seq.{take-append_seam, drop-append_seam, take-length}
use Rattle.fsl_order.specs.Causes.{Rose}
use Rattle.fsl_disk.specs.Disk.{DiskState, IsModelled, Keeps, LeavesOnly}
use Rattle.fsl_disk.proofs.Moments.{started, weaker}
use Rattle.fsl_record.specs.declared.Record.{Record}
use Rattle.fsl_journal.specs.File.{IsFileOf}
use Rattle.fsl_journal.specs.Journal.{OfBytes}
use Rattle.fsl_journal.specs.Log.{BeforeOrAll}
use Rattle.fsl_repo.specs.Whole.{Whole, IsWholeOn, log_of}
use Rattle.laws_openings.specs.declared.living.Put.{Put}
use Rattle.laws_openings.specs.declared.living.Ending.{Ending}
use Rattle.laws_openings.specs.declared.living.Ending.TheVariants as ending
use Rattle.laws_openings.specs.Lives.{IsWork, IsFresh, IsCommitOf, IsTried, IsPut, HasPut, HasWorked, HasEnded, group_of, group_in, is_done, opened_records, worked_records}

-- some work, and a commit behind it
module _ {D : Type 0} (state : D → DiskState) (puts : List Record → List Record → Type 0) (repo worked : Whole D) (put : Put D)
    (first : put.opened.value ≡ repo) (second : put.worked.value ≡ worked) (fresh : IsFresh repo) (work : IsWork puts repo worked) where
  abbrev old : List Record
  old = repo.seen.state.records

  committed_are_old : take worked.seen.state.committed worked.seen.state.records ≡ old
  committed_are_old =
      ap (λ n. take n worked.seen.state.records) (work.committed ∙ fresh.committed) ∙ ap (take (length old)) work.records ∙ take-append_seam old work.group

  grouped : group_of put ≡ work.group
  grouped =
      ap (λ r. drop (length r.seen.state.records) put.worked.value.seen.state.records) first ∙ ap (λ r. drop (length old) r.seen.state.records) second
      ∙ ap (drop (length old)) work.records ∙ drop-append_seam old work.group

  was : IsModelled (state repo.disk) → IsModelled (state worked.disk)
  was modelled = subst (λ d. IsModelled (state d)) (sym work.disk) modelled

  abbrev OneOf : Ending D → List ℕ → Type 0
  OneOf e c = IsFileOf c old ⊎ (puts old (group_in e) × IsFileOf c (old ++ group_in e))

  module _ (left : DiskState) (keeps : Keeps (state worked.disk) left)
      (moments : IsModelled (state worked.disk) → LeavesOnly (state worked.disk) left (BeforeOrAll (log_of worked))) where
    by_group : (e : Ending D) → group_in e ≡ work.group → HasWorked puts old (state repo.disk) left e
        → (IsTrue (is_done e) → IsModelled (state worked.disk) → (c : List ℕ) → left.images c → IsFileOf c worked.seen.state.records)
        → IsTried puts old e (state repo.disk) left
    by_group e same ended durable = record {
      keeps = subst (λ d. Keeps (state d) left) work.disk keeps;
      any_moment = λ modelled.
          subst (λ d. LeavesOnly (state d) left (OneOf e)) work.disk (weaker (state worked.disk) left (BeforeOrAll (log_of worked)) (OneOf e) one_of (moments (was modelled)));
      durable = λ ok. (fits, λ modelled c image. subst (λ rs. IsFileOf c rs) all (durable ok (was modelled) c image));
      ended = ended;
    }
      where
        all : worked.seen.state.records ≡ old ++ group_in e
        all = work.records ∙ ap (λ g. old ++ g) (sym same)

        fits : puts old (group_in e)
        fits = subst (λ g. puts old g) (sym same) work.fits

        one_of : (c : List ℕ) → BeforeOrAll (log_of worked) c → OneOf e c
        one_of c (inl file) = inl (subst (λ rs. IsFileOf c rs) committed_are_old file)
        one_of c (inr file) = inr (fits, subst (λ rs. IsFileOf c rs) all file)

    has_put : (p : Put D) → p ≡ put → HasPut puts old p
    has_put p same = record {
      opened = ap opened_records same ∙ ap (λ r. r.seen.state.records) first;
      fits = subst (λ g. puts old g) (sym (ap group_of same ∙ grouped)) work.fits;
      records = ap worked_records same ∙ ap (λ r. r.seen.state.records) second ∙ work.records ∙ ap (λ g. old ++ g) (sym (ap group_of same ∙ grouped));
    }

    pub tried : (e : Ending D) → IsCommitOf put (state worked.disk) left e
        → (IsTrue (is_done e) → IsModelled (state worked.disk) → (c : List ℕ) → left.images c → IsFileOf c worked.seen.state.records)
        → IsTried puts old e (state repo.disk) left
    tried (ending.Done p) by durable =
        by_group (ending.Done p) (ap group_of by.0 ∙ grouped) (has_put p by.0, subst (λ d. left.faults ≡ (state d).faults) work.disk by.1) durable
    tried (ending.Cut p) by durable =
        by_group (ending.Cut p) (ap group_of by.0 ∙ grouped) (has_put p by.0, subst (λ d. Rose (state d).faults left.faults) work.disk by.1) durable
    tried ending.Unworked by durable = absurd by
    tried (ending.Unopened fault) by durable = absurd by

-- no memory for the work: the disk is as it was opened
pub unworked : {D : Type 0} (state : D → DiskState) (puts : List Record → List Record → Type 0) (repo : Whole D) → IsFresh repo
    → ((c : List ℕ) → IsModelled (state repo.disk) → (state repo.disk).since (state repo.disk).moment c → (state repo.disk).images c) → IsWholeOn (state repo.disk) repo
    → IsTried {D = D} puts repo.seen.state.records ending.Unworked (state repo.disk) (state repo.disk)
unworked {D = D} state puts repo fresh only whole = record {
  keeps = record { tells = refl; model = refl };
  any_moment = λ modelled.
      started (state repo.disk) (λ c. IsFileOf c repo.seen.state.records ⊎ (puts repo.seen.state.records (group_in {D = D} ending.Unworked) × IsFileOf c (repo.seen.state.records ++ group_in {D = D} ending.Unworked)))
      (λ c since. only c modelled since)
      (λ c image. inl (subst (λ rs. IsFileOf c rs) (ap (λ n. take n repo.seen.state.records) fresh.committed ∙ take-length repo.seen.state.records) (whole.exact fresh.runs modelled c image)));
  durable = λ wrong. let never : false ≡ true = wrong in absurd (cc);
  ended = refl;
}

-- what was put behind the records that the file stood for
is_put : {D : Type 0} (puts : List Record → List Record → Type 0) (loaded : List Record) (before : DiskState) (p : Put D) → OfBytes before (λ bytes. IsFileOf bytes loaded)
    → HasPut puts loaded p → IsPut puts before p
is_put puts loaded before p stands put = record {
  stands = subst (λ rs. OfBytes before (λ bytes. IsFileOf bytes rs)) (sym put.opened) stands;
  fits = subst (λ rs. puts rs (group_of p)) (sym put.opened) put.fits;
  records = put.records ∙ ap (λ rs. rs ++ group_of p) (sym put.opened);
}

-- how a life ended, by how it did behind its opening
pub ended : {D : Type 0} (puts : List Record → List Record → Type 0) (loaded : List Record) (before mid after : DiskState) (e : Ending D)
    → OfBytes before (λ bytes. IsFileOf bytes loaded) → mid.faults ≡ before.faults → HasWorked puts loaded mid after e → HasEnded puts before after e
ended puts loaded before mid after (ending.Done put) stands faults worked = (is_put puts loaded before put stands worked.0, worked.1 ∙ faults)
ended puts loaded before mid after (ending.Cut put) stands faults worked =
    (is_put puts loaded before put stands worked.0, subst (λ f. Rose f after.faults) faults worked.1)
ended puts loaded before mid after ending.Unworked stands faults worked = ((loaded, stands), worked ∙ faults)
ended puts loaded before mid after (ending.Unopened fault) stands faults worked = absurd worked
