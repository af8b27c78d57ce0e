-- A clone has one outcome.
use Rattle.std.proofs.Common.{◌≡◌, ℕ, Bool, true, length, None, refl, sym, ◌∙◌}
use Rattle.fsl_pull.specs.Rounds.{End}
use Rattle.fsl_pull.specs.Laws.{with_disk}
use Rattle.fsl_pull.proofs.CloneCounts.{clones_count_no_faults}
use Rattle.fsl_pull.proofs.OneEnd.{syncs_have_one_end}
use Rattle.fsl_pull.proofs.SomeEnd.{syncs_have_some_end}
use Rattle.fossil.specs.CloneLaws.{end_outcome, HasOneCloneOutcome, HasSomeCloneOutcome}

-- the disk is no part of it
any_disk : (n : ℕ) (kind : Bool) (rounds : ℕ) (e : End) → end_outcome rounds (with_disk n kind e) ≡ end_outcome rounds e
any_disk n kind rounds e = refl

pub one_clone_outcome : HasOneCloneOutcome
one_clone_outcome server fields len xs ys more a b same (m, kind, e, is, is_a) (n, other_kind, f, other, is_b) =
    let ends = syncs_have_one_end.clone server fields None len m kind xs ys more e (with_disk m kind f) same is (clones_count_no_faults server fields None len n m other_kind kind ys f other) in
    (ends.0, is_b ∙ sym (any_disk m kind (length ys) f) ∙ (λ i. end_outcome (length (ends.0 i)) (ends.1 i)) ∙ sym is_a)

pub some_clone_outcome : HasSomeCloneOutcome
some_clone_outcome server fields len came many =
    let is = syncs_have_some_end.clone server fields None len 0 true came many in
    (is.0, is.1, end_outcome (length is.0) is.2, is.3, (0, true, is.2, is.4, refl))
