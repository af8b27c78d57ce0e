-- What stands for some first commits.
use Rattle.std.specs.Prelude.{◌≡◌, ℕ, IsTrue, List, [], ◌∷◌, ◌++◌}
use Rattle.std.proofs.Common.{refl, sym, ap, subst, ◌∙◌, inl, inr, ⊎_elim, arith, append_assoc}
use Rattle.std.proofs.lemmas.List.{append-nil}
use Rattle.fsl_disk.specs.Disk.{DiskState, Quiet, LeavesOnly}
use Rattle.fsl_disk.proofs.Moments.{and_then, quiet_moments}
use Rattle.fsl_record.specs.declared.Record.{Record}
use Rattle.fsl_journal.specs.File.{IsFileOf}
use Rattle.fsl_pull.specs.Kept.{all_of_them, StandsForSome}

pub all_some : (base : List Record) (commits : List (List Record)) (c : List ℕ) → IsFileOf c (base ++ all_of_them commits) → StandsForSome base commits c
all_some base commits c h = (commits, [], sym (append-nil commits), h)

pub some_more : (base : List Record) (commits rest : List (List Record)) (c : List ℕ) → StandsForSome base commits c → StandsForSome base (commits ++ rest) c
some_more base commits rest c h = (h.0, h.1 ++ rest, ap (λ (x : List (List Record)). x ++ rest) h.2 ∙ append_assoc h.0 h.1 rest, h.3)

pub none_of_them : (base : List Record) (commits : List (List Record)) (c : List ℕ) → IsFileOf c base → StandsForSome base commits c
none_of_them base commits c h = ([], commits, refl, subst (IsFileOf c) (sym (append-nil base)) h)

pub of_both : (xs ys : List (List Record)) → all_of_them (xs ++ ys) ≡ all_of_them xs ++ all_of_them ys
of_both [] ys = refl
of_both (x ∷ xs) ys = ap (λ (r : List Record). x ++ r) (of_both xs ys) ∙ sym (append_assoc x (all_of_them xs) (all_of_them ys))

-- ---- a disk that is only read

-- nothing was called
pub itself_quiet : (s : DiskState) → Quiet s s
itself_quiet s =
    record {
      keeps = record { tells = refl; model = refl };
      contents = refl;
      later = λ model. omega arith;
      images = λ model c left. left;
      since = λ model t c le left. inl left;
    }

pub same_quiet : {D : Type 0} (disk : D → DiskState) (d x : D) → x ≡ d → Quiet (disk d) (disk x)
same_quiet {D} disk d x same = subst (λ (y : D). Quiet (disk d) (disk y)) (sym same) (itself_quiet (disk d))

-- behind a run, and before one
pub rests_on : (old mid new : DiskState) (P : List ℕ → Type 0) → LeavesOnly old mid P → IsTrue mid.is_model → Quiet mid new → LeavesOnly old new P
rests_on old mid new P so_far model quiet =
    record {
      later = omega (arith, so_far.later, quiet.later model);
      now = λ c left. so_far.now c (quiet.images model c left);
      each = λ c left. ⊎_elim (so_far.each c) (so_far.now c) (quiet.since model old.moment c so_far.later left);
      before = λ t c le left. ⊎_elim (so_far.before t c le) (λ now. inr (so_far.now c now)) (quiet.since model t c (omega (arith, le, so_far.later)) left);
    }

pub rests_first : (old mid new : DiskState) (P : List ℕ → Type 0) → Quiet old mid → IsTrue old.is_model → ((c : List ℕ) → old.since old.moment c → old.images c) → ((c : List ℕ) → old.images c → P c) → LeavesOnly mid new P → LeavesOnly old new P
rests_first old mid new P quiet model no_other here run = and_then old mid new P (quiet_moments old mid P quiet model no_other here) run
