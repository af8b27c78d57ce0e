-- The text of a check-in is read as that check-in.
use Rattle.std.proofs.Common.{◌≡◌, ◌≢◌, ℕ, zero, suc, Bool, true, false, List, [], ◌∷◌, ◌++◌, Option, Some, None, Ok, Err, is_some, refl, sym, ap, subst, ◌∙◌, map, arith}
use Rattle.std.specs.Prelude.{slice_index, flat_map, IfSome, option_to_list, if◌then◌else◌}
use Rattle.std.specs.Int.{to_le_bytes, w32}
use Rattle.std.specs.List.{AllByRecursion, list_all}
use Rattle.std.specs.FinMap as map_of
use Rattle.md5.specs.Md5.{md5, digest_bytes}
use Rattle.md5.proofs.StandardFacts.{length-md5}
use Rattle.fsl_order.specs.Rows.{by_name, rises}
use Rattle.fsl_text.specs.Bytes.{AreBytes}
use Rattle.fsl_text.specs.Paths.{path_ok}
use Rattle.fsl_name.specs.Name.{IsName, name_of}
use Rattle.fsl_name.specs.Ref.{IsRef}
use Rattle.fsl_name.specs.declared.reference.Ref.TheVariants.{Own}
use Rattle.fsl_date.specs.Moment.{IsMoment}
use Rattle.fsl_card.specs.Cards.{IsTextOf}
use Rattle.fsl_manifest.specs.Manifests.{IsManifest}
use Rattle.fsl_manifest.specs.Parts.{IsChecksum}
use Rattle.fsl_manifest.specs.Writing.{IsOfType}
use Rattle.fsl_manifest.proofs.ReadBack.{is_read_back}
use Rattle.fsl_manifest.proofs.TypeLemmas.{typed}
use Rattle.fsl_uv.proofs.Digests.{name-is}
use Rattle.fsl_blobs.specs.Fold.{AreNamed, Contents, Held}
use Rattle.fsl_blobs.specs.declared.Found.{Found}
use Rattle.fsl_blobs.specs.declared.Found.TheVariants as found_as
use Rattle.fsl_blobs.specs.Held.{matching, found}
use Rattle.fsl_cross.specs.declared.Item.{Item}
use Rattle.fsl_repo.specs.Machine.{AreItems}
use Rattle.fsl_query.specs.declared.Refused.TheVariants as refused_as
use Rattle.fsl_query.specs.Reports.{by_found}
use Rattle.fsl_checkin.specs.declared.types.TreeItem.{TreeItem}
use Rattle.fsl_checkin.specs.Trees.{paths}
use Rattle.fsl_checkin.specs.Sums.{summed_file}
use Rattle.fsl_checkin.specs.Checkins.{checkin_of, file_card_of}
use Rattle.fsl_checkin.specs.Exports.{checkin_at}
use Rattle.fsl_checkin.proofs.CheckinLemmas.{can_be_written}
use Rattle.fsl_checkin.proofs.HavingLemmas.{never_absent}
use Rattle.fossil.specs.Checkins.{checkin_or, checkin_text, parent_of}

-- ---- a checksum

both : (a b : List ℕ) → AreBytes a → AreBytes b → AreBytes (a ++ b)
both [] b h k = k
both (x ∷ a) b h k = (h.0, both a b h.1 k)

word : (n : ℕ) → AreBytes (to_le_bytes w32 n)
word n = (omega arith, (omega arith, (omega arith, (omega arith, tt))))

words : (h : List ℕ) (n : ℕ) → AreBytes (digest_bytes h n)
unfolding digest_bytes
words h zero = tt
words h (suc n) = both (digest_bytes h n) (to_le_bytes w32 (slice_index h n)) (words h n) (word (slice_index h n))

pub is_checksum : (m : List ℕ) → IsChecksum (md5 m)
unfolding md5
is_checksum m = (length-md5 m, words _ 4)

-- ---- what the types of its fields keep

files_typed : (t : List TreeItem) → AllByRecursion (λ file. AllByRecursion IsRef (option_to_list file.hash)) (map file_card_of t)
files_typed [] = tt
files_typed (item ∷ t) = ((name-is item.bytes, tt), files_typed t)

parents_typed : (over : Option (List ℕ)) → AllByRecursion IsName (option_to_list over) → AllByRecursion IsRef (map Own (option_to_list over))
parents_typed None is = tt
parents_typed (Some name) is = is

checkin_typed : (t : List TreeItem) (over : Option (List ℕ)) (user comment : List ℕ) (moment : ℕ) → AllByRecursion IsName (option_to_list over) → IsOfType (checkin_of t over user comment moment)
checkin_typed t over user comment moment is =
    typed (checkin_of t over user comment moment) tt (files_typed t) (parents_typed over is) tt
    (is_checksum (flat_map summed_file (by_name (λ (item : TreeItem). item.path) t)), tt) tt

pub reads_as_checkin : (t : List TreeItem) (over : Option (List ℕ)) (user comment : List ℕ) (moment : ℕ) → AllByRecursion IsName (option_to_list over) → user ≢ [] → comment ≢ [] → IsMoment moment
    → list_all path_ok (paths t) ≡ true → rises (paths t) ≡ true → IsTextOf IsManifest (checkin_text t over user comment moment) (checkin_of t over user comment moment)
reads_as_checkin t over user comment moment is user_is comment_is of_calendar good rising =
    is_read_back (checkin_of t over user comment moment) (checkin_text t over user comment moment) (checkin_typed t over user comment moment is) of_calendar
    (can_be_written t over user comment moment user_is comment_is good rising) refl

-- ---- its parent

module _ (c : Contents) (items : List Item) (each : AreItems c.held items) (named : AreNamed c.held) where
  held_name : (name : List ℕ) (o : Option Held) → IfSome o (λ a. name ≡ name_of a.bytes) → (o ≡ None → ⊥) → IsName name
  held_name name None n there = absurd (there refl)
  held_name name (Some a) n there = subst IsName (sym n) (name-is a.bytes)

  is_name : (name : List ℕ) → is_some (checkin_at items name) ≡ true → IsName name
  is_name name there = held_name name (map_of.get c.held name) (named name) (never_absent c.held items name each (λ none. let no : false ≡ true = sym (ap is_some none) ∙ there in cc))

  of_checkin : (name : List ℕ) (b : Bool) (over : Option (List ℕ)) → is_some (checkin_at items name) ≡ b → (if b then Ok (Some name) else Err (refused_as.NotCheckin name)) ≡ Ok over → AllByRecursion IsName (option_to_list over)
  of_checkin name true over e h = let same : Some name ≡ over = cc in subst (λ (o : Option (List ℕ)). AllByRecursion IsName (option_to_list o)) same (is_name name e, tt)
  of_checkin name false over e h = absurd cc

  of_found : (prefix : List ℕ) (f : Found) (over : Option (List ℕ)) → by_found prefix (checkin_or items) f ≡ Ok over → AllByRecursion IsName (option_to_list over)
  of_found prefix found_as.Nothing over h = absurd cc
  of_found prefix found_as.Several over h = absurd cc
  of_found prefix (found_as.One name) over h = of_checkin name (is_some (checkin_at items name)) over refl h

  pub parent_named : (prefix over : Option (List ℕ)) → parent_of c items prefix ≡ Ok over → AllByRecursion IsName (option_to_list over)
  parent_named None over h = let none : None ≡ over = cc in subst (λ (o : Option (List ℕ)). AllByRecursion IsName (option_to_list o)) none tt
  parent_named (Some prefix) over h = of_found prefix (found (matching c.held prefix)) over h
