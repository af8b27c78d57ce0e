-- What is gathered while a file is read.
use Rattle.std.proofs.Common.{◌≡◌, ℕ, Option, None, Some, List, [], ◌∷◌, ◌++◌, sym, ap, subst, ◌∙◌}
use Rattle.std.specs.List.{AllZip, AllByRecursion}
use Rattle.std.specs.FinSet as set
use Rattle.fsl_artifact.specs.declared.Artifact.{Artifact}
use Rattle.fsl_record.specs.declared.Record.{Record}
use Rattle.fsl_record.specs.Records.{AreRecords, IsFit, IsWritable}
use Rattle.fsl_blobs.specs.Seen as blobs
use Rattle.fsl_repo.specs.Opening.{IsReadOf, IsFolded, AreFresh, AreGathered, records_in, starts_in}

pub AllZip-append : {A B : Type 0} (R : A → B → Type 0) (xs more : List A) (ys others : List B) → AllZip R xs ys → AllZip R more others → AllZip R (xs ++ more) (ys ++ others)
AllZip-append R [] more [] others all next = next
AllZip-append R [] more (y ∷ ys) others all next = absurd all
AllZip-append R (x ∷ xs) more [] others all next = absurd all
AllZip-append R (x ∷ xs) more (y ∷ ys) others all next = (all.0, AllZip-append R xs more ys others all.1 next)

fits : (records : List Record) → AreRecords records → AllByRecursion IsFit records
fits [] none = absurd none
fits (r ∷ records) are = are.2

writable_behind : (records more : List Record) → AllByRecursion IsFit (records ++ more) → AllByRecursion IsWritable more
writable_behind [] [] fit = tt
writable_behind [] (r ∷ more) fit = (fit.0.1, writable_behind [] more fit.1)
writable_behind (r ∷ records) more fit = writable_behind records more fit.1

pub writable_more : (records more : List Record) → AreRecords (records ++ more) → AllByRecursion IsWritable more
writable_more records more are = writable_behind records more (fits (records ++ more) are)

-- what is folded is fresh
pub fresh_of : (records : List Record) (places : List ℕ) (kept : blobs.Seen) → IsFolded records places kept → AreFresh (Some kept)
fresh_of records places kept is = (ap (λ (b : blobs.Seen). b.announced) is, ap (λ (b : blobs.Seen). b.cached) is)

-- what further records leave
pub folded_more : (before kept : blobs.Seen) (group : List Record) (places : List ℕ) → AreFresh (Some before) → kept ≡ record before { records = before.records ++ group; starts = before.starts ++ places }
    → IsFolded (before.records ++ group) (before.starts ++ places) kept
folded_more before kept group places fresh is = is ∙ (λ i. record { records = before.records ++ group; starts = before.starts ++ places; announced = fresh.0 i; cached = fresh.1 i })

pub gathered_more : (before : Option blobs.Seen) (found more : List (Option Artifact)) (group : List Record) (places : List ℕ) (kept : blobs.Seen) → AreGathered before found
    → ((records : List Record) → AllZip IsReadOf records found → AllZip IsReadOf (records ++ group) more) → IsFolded (records_in before ++ group) (starts_in before ++ places) kept → AreGathered (Some kept) more
gathered_more before found more group places kept so_far read is = record {
  fresh = fresh_of (records_in before ++ group) (starts_in before ++ places) kept is;
  read = subst (λ (rs : List Record). AllZip IsReadOf rs more) (sym (ap (λ (b : blobs.Seen). b.records) is)) (read (records_in before) so_far.read);
}

pub fresh_none : (kept : Option blobs.Seen) → kept ≡ None → AreFresh kept
fresh_none kept nothing = subst AreFresh (sym nothing) tt

pub gathered_none : (kept : Option blobs.Seen) (found : List (Option Artifact)) → kept ≡ None → found ≡ [] → AreGathered kept found
gathered_none kept found nothing none =
    subst (λ (o : Option blobs.Seen). AreGathered o found) (sym nothing) (subst (AreGathered None) (sym none) (record { fresh = tt; read = tt }))
