use Rattle.std.proofs.Common.{sym, subst, List, ℕ}
use Rattle.fsl_grammar.specs.Reading.{IsGiven}
use Rattle.fsl_manifest.specs.Manifests.{pick_form}
use Rattle.fsl_manifest.proofs.ItemLemmas.{one_item, two_items}
use Rattle.fsl_manifest.proofs.forms.PickFormForm.read.Goals as goal

pub returns-in-len1 : goal.returns-in-len1
returns-in-len1 c =
    subst (λ (args : List (List ℕ)). IsGiven (pick_form args) c.read_pick.result)
    (sym (one_item c.args.args.now _ c.in-len1.len_at_least c.in-len1.len_below c.target-item.is)) (rw c.bytes.ensures at c.read_pick.ensures)

pub returns-in-len2 : goal.returns-in-len2
returns-in-len2 c =
    subst (λ (args : List (List ℕ)). IsGiven (pick_form args) c.read_pick-in-len2.result)
    (sym (two_items c.args.args.now _ _ c.in-len2.len_at_least c.in-len2.len_below c.target-item-then-args-lt3.is c.other-item.is)) (rw c.bytes-in-len2.ensures at c.read_pick-in-len2.ensures)
