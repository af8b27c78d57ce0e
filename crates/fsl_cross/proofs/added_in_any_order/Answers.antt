use Rattle.std.proofs.Common.{◌∙◌, map, sym}
use Rattle.std.specs.Cmp.Lexicographic.{nat_list_eq_equiv}
use Rattle.std.specs.Str.{bytes_eq}
use Rattle.std.proofs.lemmas.Map.Keys.{IsDistinct-IsPermutation}
use Rattle.std.proofs.lemmas.List.Sorted.{IsPermutation-map}
use Rattle.fsl_cross.proofs.Moved.{item_name}
use Rattle.fsl_cross.proofs.AddedItems.{added-built}
use Rattle.fsl_cross.proofs.added_in_any_order.Goals as goal

pub returns : goal.returns
returns c = record {
  built = added-built;
  same = λ xs ys d p.
      added-built xs d ∙ c.by_name_in_any_order.ensures item_name xs ys d p
      ∙ sym (added-built ys (IsDistinct-IsPermutation bytes_eq nat_list_eq_equiv.symm (map item_name xs) (map item_name ys) (IsPermutation-map item_name xs ys p) d));
}
