-- The texts of refusals.
use Rattle.std.specs.Prelude.{ℕ, List, ◌++◌, codes}
use Rattle.fsl_text.specs.Escapes.{escape}
use Rattle.fsl_name.specs.Name.{name_text}
use Rattle.fsl_query.specs.declared.Refused.{Refused}
use Rattle.fsl_query.specs.declared.Refused.TheVariants.{NoArtifact, SeveralArtifacts, NotCheckin, NoBaseline, NoCheckin, NoPage, NoTicket, NoThread, Several, NoField}

-- the text of a refusal
abbrev pub refusal_text : Refused → List ℕ
refusal_text (NoArtifact prefix) = codes "no artifact " ++ prefix
refusal_text (SeveralArtifacts prefix) = codes "several artifacts " ++ prefix
refusal_text (NotCheckin name) = codes "not a check-in " ++ name_text name
refusal_text (NoBaseline name) = codes "baseline not held " ++ name_text name
refusal_text (NoCheckin symbol) = codes "no check-in " ++ escape symbol
refusal_text (NoPage title) = codes "no page " ++ escape title
refusal_text (NoTicket prefix) = codes "no ticket " ++ prefix
refusal_text (NoThread prefix) = codes "no thread " ++ prefix
refusal_text (Several prefix) = codes "several " ++ prefix
refusal_text (NoField field) = codes "no field " ++ escape field
