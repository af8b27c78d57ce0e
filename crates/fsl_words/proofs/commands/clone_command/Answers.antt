use Rattle.std.proofs.Common.{◌∙◌}
use Rattle.std.proofs.lemmas.List.{take_rest}
use Rattle.std.specs.Prelude.{string_bytes}
use Rattle.fsl_words.proofs.GrammarLemmas.{no_server}
use Rattle.fsl_words.proofs.PartLemmas.{handed, no_memory, no_clone_code, no_clone_fields, whole_clone}
use Rattle.fsl_words.proofs.commands.clone_command.Goals as goal

pub returns-in_default : goal.returns-in_default
returns-in_default c = no_server string_bytes c.args.words.now c.in_default.len_below

pub returns-in_err-name : goal.returns-in_err-name
returns-in_err-name c =
    handed _ _ _ c.from_residual.result c.from_residual.ensures.1
    (no_clone_code string_bytes c.args.words.now c.address-item.result c.server-item.result c.as_bytes.result.now c.in-len2-up.len_at_least c.address-item.is c.server-item.is c.as_bytes.ensures.value) c.in_err-name.ensures

pub returns-in_err-fields : goal.returns-in_err-fields
returns-in_err-fields c =
    handed _ _ _ c.from_residual-in_err-fields.result c.from_residual-in_err-fields.ensures.1
    (no_clone_fields string_bytes c.args.words.now _ c.address-item.result c.server-item.result c.in-len2-up.len_at_least c.address-item.is c.server-item.is (take_rest c.args.words.now 2)) c.in_err-fields.ensures

pub returns-in_err-of : goal.returns-in_err-of
returns-in_err-of c =
    no_memory _ c.from_residual-in_err-of.result c.from_residual-in_err-of.ensures.1

pub returns : goal.returns
returns c =
    whole_clone string_bytes c.args.words.now _ c.address-item.result c.server-item.result _ c.as_bytes.result.now _ _ c.in-len2-up.len_at_least c.address-item.is c.server-item.is
    (c.in_ok-of.ensures ∙ c.as_bytes-2.ensures.value) c.as_bytes.ensures.value (take_rest c.args.words.now 2) c.in_ok-name.ensures c.in_ok-fields.ensures
