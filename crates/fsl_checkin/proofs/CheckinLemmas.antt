-- The check-in of a tree can be written.
use Rattle.std.proofs.Common.{◌≡◌, ℕ, Bool, true, false, List, [], ◌∷◌, map, Option, Some, None, refl, ap}
use Rattle.std.specs.Prelude.{◌&&◌, ◌≢◌, is_some, option_to_list}
use Rattle.std.specs.List.{list_all}
use Rattle.fsl_order.proofs.Booleans.{first_holds, second_holds}
use Rattle.fsl_order.specs.Names.{is_before}
use Rattle.fsl_order.specs.Rows.{rises}
use Rattle.fsl_name.specs.Name.{name_of}
use Rattle.fsl_text.specs.Bytes.{is_empty}
use Rattle.fsl_text.specs.Paths.{path_ok}
use Rattle.fsl_name.specs.declared.reference.Ref.TheVariants.{Own}
use Rattle.fsl_grammar.specs.Forms.{refs_differ}
use Rattle.fsl_manifest.specs.Manifests.{begins_own, files_rise, is_file_written, is_well_formed}
use Rattle.fsl_checkin.specs.declared.types.Perm.{Perm}
use Rattle.fsl_checkin.specs.declared.types.Perm.TheVariants.{Plain, Exec, Symlink}
use Rattle.fsl_checkin.specs.declared.types.TreeItem.{TreeItem}
use Rattle.fsl_checkin.specs.Checkins.{card_perm_of, checkin_of, file_card_of}
use Rattle.fsl_checkin.specs.Trees.{paths}

filled : (text : List ℕ) → text ≢ [] → is_empty text ≡ false
filled [] h = absurd (h refl)
filled (b ∷ text) h = refl

written_as : (path : List ℕ) (name : List ℕ) (p : Perm) → path_ok path ≡ true → is_file_written (record { path = path; hash = Some (Own name); perm = card_perm_of p; former = None }) ≡ true
written_as path name Plain h = rw h refl
written_as path name Exec h = rw h refl
written_as path name Symlink h = rw h refl

files_written : (items : List TreeItem) → list_all path_ok (paths items) ≡ true → list_all is_file_written (map file_card_of items) ≡ true
files_written [] h = refl
files_written (item ∷ items) h =
    rw (
      written_as item.path (name_of item.bytes) item.perm (first_holds (path_ok item.path) (list_all path_ok (paths items)) h),
      files_written items (second_holds (path_ok item.path) (list_all path_ok (paths items)) h),
    ) refl

cards_rise : (items : List TreeItem) → files_rise (map file_card_of items) ≡ rises (paths items)
cards_rise [] = refl
cards_rise (a ∷ []) = refl
cards_rise (a ∷ b ∷ items) = ap (λ (t : Bool). is_before a.path b.path && t) (cards_rise (b ∷ items))

hashed : (items : List TreeItem) → list_all (λ file. is_some file.hash) (map file_card_of items) ≡ true
hashed [] = refl
hashed (item ∷ items) = hashed items

one_differs : (parent : Option (List ℕ)) → refs_differ (map Own (option_to_list parent)) ≡ true
one_differs None = refl
one_differs (Some name) = refl

own_first : (parent : Option (List ℕ)) → begins_own (map Own (option_to_list parent)) ≡ true
own_first None = refl
own_first (Some name) = refl

pub can_be_written : (items : List TreeItem) (parent : Option (List ℕ)) (user comment : List ℕ) (date : ℕ) → user ≢ [] → comment ≢ []
    → list_all path_ok (paths items) ≡ true → rises (paths items) ≡ true → is_well_formed (checkin_of items parent user comment date) ≡ true
can_be_written items parent user comment date u c good rising =
    rw (filled comment c, filled user u, files_written items good, cards_rise items, rising, hashed items, own_first parent, one_differs parent) refl
