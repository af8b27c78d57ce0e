use Rattle.std.proofs.lemmas.List.{take_rest}
use Rattle.std.specs.Prelude.{string_bytes}
use Rattle.fsl_words.proofs.GrammarLemmas.{no_codes}
use Rattle.fsl_words.proofs.PartLemmas.{handed, no_project, no_code, no_init_fields, whole_init}
use Rattle.fsl_words.proofs.commands.init_command.Goals as goal

pub returns-in_default : goal.returns-in_default
returns-in_default c = no_codes string_bytes c.args.words.now c.in_default.len_below

pub returns-in_err-name : goal.returns-in_err-name
returns-in_err-name c =
    handed _ _ _ c.from_residual.result c.from_residual.ensures.1
    (no_project string_bytes c.args.words.now c.project-item.result c.server-item.result c.as_bytes.result.now c.in-len2-up.len_at_least c.project-item.is c.server-item.is c.as_bytes.ensures.value) c.in_err-name.ensures

pub returns-in_err-name-2 : goal.returns-in_err-name-2
returns-in_err-name-2 c =
    handed _ _ _ c.from_residual-in_err-name-2.result c.from_residual-in_err-name-2.ensures.1
    (no_code string_bytes c.args.words.now c.project-item.result c.server-item.result c.as_bytes-2.result.now c.in-len2-up.len_at_least c.project-item.is c.server-item.is c.as_bytes-2.ensures.value) c.in_err-name-2.ensures

pub returns-in_err-fields : goal.returns-in_err-fields
returns-in_err-fields c =
    handed _ _ _ c.from_residual-in_err-fields.result c.from_residual-in_err-fields.ensures.1
    (no_init_fields string_bytes c.args.words.now _ c.project-item.result c.server-item.result c.in-len2-up.len_at_least c.project-item.is c.server-item.is (take_rest c.args.words.now 2)) c.in_err-fields.ensures

pub returns : goal.returns
returns c =
    whole_init string_bytes c.args.words.now _ c.project-item.result c.server-item.result c.as_bytes.result.now c.as_bytes-2.result.now _ _ _ c.in-len2-up.len_at_least c.project-item.is c.server-item.is
    c.as_bytes.ensures.value c.as_bytes-2.ensures.value (take_rest c.args.words.now 2) c.in_ok-name.ensures c.in_ok-name-2.ensures c.in_ok-fields.ensures
