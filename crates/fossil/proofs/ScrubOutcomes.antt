-- Two files have one outcome of a scrub.
use Rattle.std.proofs.Common.{◌⊎◌, inl, inr, ℕ, List, refl, sym, ap, ◌∙◌, length}
use Rattle.std.specs.Prelude.{None}
use Rattle.fsl_record.specs.declared.Record.{Record}
use Rattle.fsl_journal.specs.File.{IsFileOf, FailsAt}
use Rattle.fsl_journal.proofs.Failing.{no_file, one_place}
use Rattle.fsl_journal.proofs.SomeFile.{some_file}
use Rattle.fsl_journal.proofs.Unique.{one_file}
use Rattle.fossil.specs.Outcome.{printed_of, not_repository}
use Rattle.fossil.specs.Scrubs.{NewFile, IsScrub, HasOneScrub, HasSomeScrub, scrub_of}

-- a file that is no repository
abbrev pub no_scrub : ℕ → NewFile
no_scrub at = record { printed = printed_of (not_repository at); of = None }

pub one_scrub : HasOneScrub
one_scrub file peer a b (inl (at, fails, e)) (inl (to, also, f)) = e ∙ ap no_scrub (one_place file at to fails also) ∙ sym f
one_scrub file peer a b (inl (at, fails, e)) (inr (records, is, f)) = absurd (no_file file at records fails is)
one_scrub file peer a b (inr (records, is, e)) (inl (at, fails, f)) = absurd (no_file file at records fails is)
one_scrub file peer a b (inr (records, is, e)) (inr (others, also, f)) = e ∙ ap (λ (rs : List Record). scrub_of rs (length peer)) (one_file file records others is also) ∙ sym f

pub some_scrub : HasSomeScrub
some_scrub file peer = by (some_file file)
  where
    by : ((at : ℕ) × FailsAt file at) ⊎ ((records : List Record) × IsFileOf file records) → (s : NewFile) × IsScrub file peer s
    by (inl (at, fails)) = (no_scrub at, inl (at, fails, refl))
    by (inr (records, is)) = (scrub_of records (length peer), inr (records, is, refl))
