-- Files and picks are read again as they are written.
use Rattle.std.proofs.Common.{◌≡◌, ℕ, Bool, true, false, not, List, [], ◌∷◌, ◌++◌, map, Option, Some, None, refl}
use Rattle.std.specs.Prelude.{◌&&◌, if◌then◌else◌, is_some, option_to_list}
use Rattle.std.specs.List.{list_all, AllByRecursion}
use Rattle.std.proofs.lemmas.Bool.{and_from}
use Rattle.fsl_order.specs.Names.{is_before}
use Rattle.fsl_order.proofs.Booleans.{first_holds, second_holds}
use Rattle.fsl_text.specs.Bytes.{is_empty}
use Rattle.fsl_text.specs.Escapes.{escape}
use Rattle.fsl_text.specs.Paths.{path_ok}
use Rattle.fsl_text.proofs.Unescaping.{unescape-escape}
use Rattle.fsl_name.specs.Ref.{IsRef, ref_text}
use Rattle.fsl_name.specs.declared.reference.Ref.{Ref}
use Rattle.fsl_name.proofs.RefTexts.{ref_again}
use Rattle.fsl_card.specs.Cards.{in_order, is_argument}
use Rattle.fsl_grammar.specs.Writing.{written_if}
use Rattle.fsl_grammar.proofs.WrittenArguments.{is_argument-escape, is_argument-ref}
use Rattle.fsl_grammar.proofs.Blocks.{IsBlock, block_each, plain_card}
use Rattle.fsl_manifest.specs.declared.Perm.{Perm}
use Rattle.fsl_manifest.specs.declared.Perm.TheVariants.{Plain, Writable, Exec, Symlink}
use Rattle.fsl_manifest.specs.declared.FileCard.{FileCard}
use Rattle.fsl_manifest.specs.declared.Pick.{Pick}
use Rattle.fsl_manifest.specs.Manifests.{file_form, path_in, pick_form, is_file_written, is_perm_placed, files_rise}
use Rattle.fsl_manifest.specs.Writing.{file_card, perm_arguments, pick_card}

-- ---- files

-- what a file that can be written owes
pub record IsFileFit (f : FileCard) : Type 0 where
  pub named : AllByRecursion IsRef (option_to_list f.hash)
  pub written : is_file_written f ≡ true

path_again : (path : List ℕ) → path_ok path ≡ true → path_in (escape path) ≡ Some path
path_again path h = rw (unescape-escape path, h) refl

path_filled : (path : List ℕ) → path_ok path ≡ true → not (is_empty path) ≡ true
path_filled [] h = absurd cc
path_filled (b ∷ path) h = refl

-- a file, field by field
abbrev file_of : List ℕ → Option Ref → Perm → Option (List ℕ) → FileCard
file_of path hash perm former = record { path = path; hash = hash; perm = perm; former = former }

file_args_again : (path : List ℕ) (hash : Option Ref) (perm : Perm) (former : Option (List ℕ)) → path_ok path ≡ true → AllByRecursion IsRef (option_to_list hash) → list_all path_ok (option_to_list former) ≡ true
    → is_perm_placed perm (is_some hash) (is_some former) ≡ true → file_form (file_card (file_of path hash perm former)).args ≡ Some (file_of path hash perm former)
file_args_again path None Plain None ok named old placed = rw (path_again path ok) refl
file_args_again path None Plain (Some former) ok named old placed = absurd cc
file_args_again path None Exec former ok named old placed = absurd cc
file_args_again path None Symlink former ok named old placed = absurd cc
file_args_again path None Writable former ok named old placed = absurd cc
file_args_again path (Some hash) Plain None ok named old placed = rw (path_again path ok, ref_again hash named.0) refl
file_args_again path (Some hash) Plain (Some former) ok named old placed = absurd cc
file_args_again path (Some hash) Exec None ok named old placed = rw (path_again path ok, ref_again hash named.0) refl
file_args_again path (Some hash) Exec (Some former) ok named old placed = rw (path_again path ok, ref_again hash named.0, path_again former (first_holds _ true old)) refl
file_args_again path (Some hash) Symlink None ok named old placed = rw (path_again path ok, ref_again hash named.0) refl
file_args_again path (Some hash) Symlink (Some former) ok named old placed = rw (path_again path ok, ref_again hash named.0, path_again former (first_holds _ true old)) refl
file_args_again path (Some hash) Writable None ok named old placed = rw (path_again path ok, ref_again hash named.0) refl
file_args_again path (Some hash) Writable (Some former) ok named old placed = rw (path_again path ok, ref_again hash named.0, path_again former (first_holds _ true old)) refl

pub file_again : (f : FileCard) → IsFileFit f → file_form (file_card f).args ≡ Some f
file_again f h =
    let both = first_holds _ (is_perm_placed f.perm (is_some f.hash) (is_some f.former)) h.written in
    file_args_again f.path f.hash f.perm f.former (first_holds _ (list_all path_ok (option_to_list f.former)) both) h.named
    (second_holds (path_ok f.path) _ both) (second_holds (path_ok f.path && list_all path_ok (option_to_list f.former)) _ h.written)

all-append : (a b : List (List ℕ)) → list_all is_argument a ≡ true → list_all is_argument b ≡ true → list_all is_argument (a ++ b) ≡ true
all-append [] b h k = k
all-append (x ∷ a) b h k = and_from _ _ (first_holds _ (list_all is_argument a) h) (all-append a b (second_holds (is_argument x) _ h) k)

hash_arguments : (hash : Option Ref) → AllByRecursion IsRef (option_to_list hash) → list_all is_argument (written_if ref_text hash) ≡ true
hash_arguments None h = refl
hash_arguments (Some hash) h = and_from _ _ (is_argument-ref hash h.0) refl

former_arguments : (former : Option (List ℕ)) → list_all path_ok (option_to_list former) ≡ true → list_all is_argument (written_if escape former) ≡ true
former_arguments None h = refl
former_arguments (Some former) h = and_from _ _ (is_argument-escape former (path_filled former (first_holds _ true h))) refl

perm_are_arguments : (perm : Perm) (former : Option (List ℕ)) → list_all path_ok (option_to_list former) ≡ true → list_all is_argument (perm_arguments perm former) ≡ true
perm_are_arguments Plain former h = refl
perm_are_arguments Exec former h = former_arguments former h
perm_are_arguments Symlink former h = former_arguments former h
perm_are_arguments Writable former h = former_arguments former h

pub file_arguments : (f : FileCard) → IsFileFit f → list_all is_argument (file_card f).args ≡ true
file_arguments f h =
    let both = first_holds _ (is_perm_placed f.perm (is_some f.hash) (is_some f.former)) h.written in
    all-append (escape f.path ∷ written_if ref_text f.hash) (perm_arguments f.perm f.former)
    (and_from _ _ (is_argument-escape f.path (path_filled f.path (first_holds _ (list_all path_ok (option_to_list f.former)) both))) (hash_arguments f.hash h.named))
    (perm_are_arguments f.perm f.former (second_holds (path_ok f.path) _ both))

files_ordered : (files : List FileCard) → files_rise files ≡ true → in_order (map file_card files) ≡ true
files_ordered [] h = refl
files_ordered (a ∷ []) h = refl
files_ordered (a ∷ b ∷ files) h =
    and_from _ _ (rw (unescape-escape a.path, unescape-escape b.path) (first_holds _ (files_rise (b ∷ files)) h)) (files_ordered (b ∷ files) (second_holds (is_before a.path b.path) _ h))

pub files_block : (files : List FileCard) → AllByRecursion IsFileFit files → files_rise files ≡ true → IsBlock (70, map file_card files)
files_block files h rise =
    block_each 70 file_card IsFileFit (λ f. refl) (λ f fit. plain_card 70 (file_card f).args refl (file_arguments f fit)) files h (files_ordered files rise)

pub files_fit : (files : List FileCard) → AllByRecursion (λ f. AllByRecursion IsRef (option_to_list f.hash)) files → list_all is_file_written files ≡ true → AllByRecursion IsFileFit files
files_fit [] h k = tt
files_fit (f ∷ files) h k =
    (record { named = h.0; written = first_holds _ (list_all is_file_written files) k }, files_fit files h.1 (second_holds (is_file_written f) _ k))

-- ---- picks

-- the names of a pick
abbrev pub IsPickFit : Pick → Type 0
IsPickFit p = AllByRecursion IsRef (p.target ∷ option_to_list p.other)

abbrev pick_of : Bool → Ref → Option Ref → Pick
pick_of back target other = record { back = back; target = target; other = other }

pick_args_again : (back : Bool) (target : Ref) (other : Option Ref) → IsPickFit (pick_of back target other) → pick_form (pick_card (pick_of back target other)).args ≡ Some (pick_of back target other)
pick_args_again true target None h = rw (ref_again target h.0) refl
pick_args_again true target (Some other) h = rw (ref_again target h.0, ref_again other h.1.0) refl
pick_args_again false target None h = rw (ref_again target h.0) refl
pick_args_again false target (Some other) h = rw (ref_again target h.0, ref_again other h.1.0) refl

pub pick_again : (p : Pick) → IsPickFit p → pick_form (pick_card p).args ≡ Some p
pick_again p h = pick_args_again p.back p.target p.other h

pub pick_arguments : (p : Pick) → IsPickFit p → list_all is_argument (pick_card p).args ≡ true
pick_arguments p h = and_from _ _ (signed p.back) (hash_arguments p.other h.1)
  where
    signed : (back : Bool) → is_argument ((if back then 45 else 43) ∷ ref_text p.target) ≡ true
    signed true = second_holds (not (is_empty (ref_text p.target))) _ (is_argument-ref p.target h.0)
    signed false = second_holds (not (is_empty (ref_text p.target))) _ (is_argument-ref p.target h.0)

picks_ordered : (picks : List Pick) → in_order (map pick_card picks) ≡ true
picks_ordered [] = refl
picks_ordered (a ∷ []) = refl
picks_ordered (a ∷ b ∷ picks) = picks_ordered (b ∷ picks)

pub picks_block : (picks : List Pick) → AllByRecursion IsPickFit picks → IsBlock (81, map pick_card picks)
picks_block picks h =
    block_each 81 pick_card IsPickFit (λ p. refl) (λ p fit. plain_card 81 (pick_card p).args refl (pick_arguments p fit)) picks h (picks_ordered picks)
