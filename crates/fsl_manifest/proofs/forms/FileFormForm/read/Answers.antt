use Rattle.std.proofs.Common.{sym, subst, List, ℕ}
use Rattle.fsl_grammar.specs.Reading.{IsGiven}
use Rattle.fsl_manifest.specs.Manifests.{file_form}
use Rattle.fsl_manifest.proofs.ItemLemmas.{one_item, two_items, three_items, four_items}
use Rattle.fsl_manifest.proofs.forms.FileFormForm.read.Goals as goal

pub returns-in-len1 : goal.returns-in-len1
returns-in-len1 c =
    subst (λ (args : List (List ℕ)). IsGiven (file_form args) c.read_file.result)
    (sym (one_item c.args.args.now _ c.in-len1.len_at_least c.in-len1.len_below c.path-item.is)) c.read_file.ensures

pub returns-in-len2 : goal.returns-in-len2
returns-in-len2 c =
    subst (λ (args : List (List ℕ)). IsGiven (file_form args) c.read_file-in-len2.result)
    (sym (two_items c.args.args.now _ _ c.in-len2.len_at_least c.in-len2.len_below c.path-item-then-args-lt3.is c.hash-item.is)) c.read_file-in-len2.ensures

pub returns-in-len3 : goal.returns-in-len3
returns-in-len3 c =
    subst (λ (args : List (List ℕ)). IsGiven (file_form args) c.read_file-in-len3.result)
    (sym (three_items c.args.args.now _ _ _ c.in-len3.len_at_least c.in-len3.len_below c.path-item-then-args-lt4.is c.hash-item-then-args-lt4.is c.perm-item.is)) c.read_file-in-len3.ensures

pub returns-in-len4 : goal.returns-in-len4
returns-in-len4 c =
    subst (λ (args : List (List ℕ)). IsGiven (file_form args) c.read_file-in-len4.result)
    (sym (four_items c.args.args.now _ _ _ _ c.in-len4.len_at_least c.in-len4.len_below c.path-item-then-args-lt5.is c.hash-item-then-args-lt5.is c.perm-item-then-args-lt5.is c.former-item.is)) c.read_file-in-len4.ensures
