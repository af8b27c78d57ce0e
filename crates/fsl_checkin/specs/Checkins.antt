-- The check-in that a tree becomes.
use Rattle.std.specs.Prelude.{ℕ, List, [], Option, Some, None, map, option_to_list}
use Rattle.fsl_name.specs.Name.{name_of}
use Rattle.fsl_name.specs.declared.reference.Ref.TheVariants.{Own}
use Rattle.fsl_manifest.specs.declared.FileCard.{FileCard}
use Rattle.fsl_manifest.specs.declared.Manifest.{Manifest}
use Rattle.fsl_manifest.specs.declared.Perm as card_perm
use Rattle.fsl_manifest.specs.declared.Perm.TheVariants as card
use Rattle.fsl_checkin.specs.declared.types.Perm.{Perm}
use Rattle.fsl_checkin.specs.declared.types.Perm.TheVariants.{Plain, Exec, Symlink}
use Rattle.fsl_checkin.specs.declared.types.TreeItem.{TreeItem}
use Rattle.fsl_checkin.specs.Sums.{sum}

abbrev pub card_perm_of : Perm → card_perm.Perm
card_perm_of Plain = card.Plain
card_perm_of Exec = card.Exec
card_perm_of Symlink = card.Symlink

-- the F card of an item: its path, the name of its content and its permission
abbrev pub file_card_of : TreeItem → FileCard
file_card_of item = record { path = item.path; hash = Some (Own (name_of item.bytes)); perm = card_perm_of item.perm; former = None }

-- the check-in of a tree: its comment and its date, an F card for each item, the parent where there is one, the checksum of the tree, and its user
abbrev pub checkin_of : List TreeItem → Option (List ℕ) → List ℕ → List ℕ → ℕ → Manifest
checkin_of items parent user comment date =
    record {
      baseline = None;
      comment = comment;
      date = date;
      files = map file_card_of items;
      mime = None;
      parents = map Own (option_to_list parent);
      picks = [];
      checksum = Some (sum items);
      tags = [];
      user = user;
    }
