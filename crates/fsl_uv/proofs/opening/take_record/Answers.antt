use Rattle.std.proofs.Common.{List, ℕ, ◌++◌, ◌∷◌, [], sym, subst, MatchOption}
use Rattle.std.specs.Prelude.{◌≢◌}
use Rattle.fsl_record.specs.declared.Record.{Record}
use Rattle.fsl_uv.specs.declared.Entry.{Entry}
use Rattle.fsl_uv.specs.Entries.{IsEntry, IsEntryText, entry_text}
use Rattle.fsl_uv.specs.Syncing.{with_entry}
use Rattle.fsl_uv.specs.Stores.{IsUv}
use Rattle.fsl_uv.proofs.RecordLemmas.{other-record, more-record}
use Rattle.fsl_uv.proofs.opening.take_record.Goals as goal

pub returns-in_default : goal.returns-in_default
returns-in_default c = record { ok = λ records u. other-record records c.args.held.now c.args.entry.now (λ private name receipt bytes. c.in_default.not-Blob private name receipt bytes) u; fault = tt }

pub returns-in-Ok-clause-ok : goal.returns-in-Ok-clause-ok
returns-in-Ok-clause-ok c = λ records u.
    let entry = c.in-Ok-Some.entry in
    let text = c.bytes.result.now in
    let is : IsEntryText text entry =
    subst (λ o. MatchOption o ((e : Entry) → IsEntry e → text ≢ entry_text e) (IsEntryText text)) c.in-Ok-Some.field-0-is c.in-Ok-Some.ensures in
    subst (λ m. IsUv (records ++ c.args.entry.now ∷ []) m) (sym c.in-Ok.ensures.ok)
    (subst (λ (r : Record). IsUv (records ++ r ∷ []) (with_entry c.args.held.now entry)) (sym c.in-Blob.is)
    (more-record records c.args.held.now c.in-Blob.private c.in-Blob.name c.in-Blob.receipt c.in-Blob.bytes entry (subst (λ (t : List ℕ). IsEntryText t entry) c.bytes.ensures is) u))
