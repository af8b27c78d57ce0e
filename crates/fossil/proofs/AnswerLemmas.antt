-- What a message comes to, by its files.
use Rattle.std.proofs.Common.{◌≡◌, ℕ, Bool, List, Option, Some, None, Ok, Err, sym, subst, refl}
use Rattle.std.specs.Prelude.{MatchBool}
use Rattle.fossil.specs.declared.reading.gathering.Gathered.{Gathered}
use Rattle.fossil.specs.declared.reading.message.MessageFile.{MessageFile}
use Rattle.fossil.specs.Printed.{Printed, too_long}
use Rattle.fossil.specs.Ingest.{IsReported, IsSetPrinted, IsRead}
use Rattle.fossil.specs.Taking.{IsGathered, HaveGathered}
use Rattle.fossil.specs.Acts.{IsInput, IsIngestRun}
use Rattle.fossil.specs.Run.{Input}
use Rattle.fsl_repo.specs.Machine.{State}

-- ---- the files

pub refused_report : (files : List MessageFile) (g : Gathered) (o : Option Printed) (refusal : Printed) → HaveGathered files g o → o ≡ Some refusal → IsReported files refusal
refused_report files g o refusal have is = (Err refusal, subst (HaveGathered files g) is have, refl)

pub set_report : (files : List MessageFile) (g : Gathered) (o : Option Printed) (text : List ℕ) → HaveGathered files g o → o ≡ None → ((s : State) → IsGathered s g → IsSetPrinted s (record { status = 0; text = text }))
    → IsReported files (record { status = 0; text = text })
set_report files g o text have is prints = let all = subst (HaveGathered files g) is have in (Ok all.0, all.1, prints all.0.state all.2)

-- ---- the input of a message

pub ingest_run : (input : Input) (o : Option (List ℕ)) (message : List ℕ) (a : Printed) → IsInput input o → o ≡ Some message → IsRead message a → IsIngestRun input a
ingest_run input o message a is e read =
    let whole : IsInput input (Some message) = subst (IsInput input) e is in
    record {
      read = message;
      told = whole.0;
      ingested = subst (λ (t : Bool). MatchBool t (a ≡ too_long) (IsRead message a)) (sym whole.2) read;
      end = λ z. whole.1;
      input_steady = whole.3;
    }
