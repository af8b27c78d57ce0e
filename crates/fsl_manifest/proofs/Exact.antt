-- Where some cards are a manifest, the manifest can be written.
use Rattle.std.proofs.Common.{◌≡◌, ℕ, Bool, true, false, cond, List, [], ◌∷◌, map, Option, Some, None, refl, sym, ap, subst, ◌∙◌}
use Rattle.std.specs.Prelude.{◌&&◌, ◌||◌, ◌==◌, nat_lt, is_some, option_map, option_to_list}
use Rattle.std.specs.List.{list_all, AllByRecursion}
use Rattle.std.specs.Str.{bytes_eq}
use Rattle.std.proofs.lemmas.Bool.{and_from}
use Rattle.fsl_order.specs.Names.{is_before}
use Rattle.fsl_order.proofs.Booleans.{first_holds, second_holds}
use Rattle.fsl_text.specs.Escapes.{unescape}
use Rattle.fsl_text.specs.Paths.{path_ok}
use Rattle.fsl_name.specs.Ref.{ref_in}
use Rattle.fsl_name.specs.declared.reference.Ref.{Ref}
use Rattle.fsl_card.specs.declared.types.Card.{Card}
use Rattle.fsl_card.specs.Cards.{IsCards, in_order, is_argument, may_follow, may_repeat, first_of, first_argument}
use Rattle.fsl_card.specs.Writing.{sealed_text}
use Rattle.fsl_grammar.specs.Forms.{arguments, is_tag_written, optional, tag_form, text_form, user_form}
use Rattle.fsl_grammar.proofs.LetterOrder.{all_of_it, kept_in_order, of_it}
use Rattle.fsl_grammar.proofs.ReadValues.{all_true, each_given, filled, fit_arguments, given_is, optional_filled, step, tag_read, text_filled, user_filled}
use Rattle.fsl_manifest.specs.declared.Perm.{Perm}
use Rattle.fsl_manifest.specs.declared.Perm.TheVariants.{Plain, Writable, Exec, Symlink}
use Rattle.fsl_manifest.specs.declared.FileCard.{FileCard}
use Rattle.fsl_manifest.specs.declared.Manifest.{Manifest}
use Rattle.fsl_manifest.specs.Manifests.{IsManifest, file_form, file_in, files_rise, is_file_written, is_perm_placed, is_well_formed, path_in, perm_in, perm_or_plain}
use Rattle.fsl_manifest.specs.Writing.{IsWrittenExactly, manifest_cards}
use Rattle.fsl_manifest.proofs.ReadBack.{is_read_back}

-- ---- files

optional_some : {X : Type 0} (form : List ℕ → Option X) (arg : Option (List ℕ)) (o : Option X) → optional form arg ≡ Some o → is_some o ≡ is_some arg
optional_some {X = X} form None o e = ap is_some (sym (inside e))
  where
    inside : ◌≡◌ {A = Option (Option X)} (Some None) (Some o) → ◌≡◌ {A = Option X} None o
    inside f = cc
optional_some {X = X} form (Some arg) o e = by (form arg) e
  where
    by : (found : Option X) → option_map Some found ≡ Some o → is_some o ≡ true
    by None f = absurd cc
    by (Some x) f = ap is_some (sym (inside f))
      where
        inside : ◌≡◌ {A = Option (Option X)} (Some (Some x)) (Some o) → ◌≡◌ {A = Option X} (Some x) o
        inside g = cc

path_of : (arg path : List ℕ) → path_in arg ≡ Some path → (path_ok path ≡ true) × (path ≡ unescape arg)
path_of arg path e =
    let g = given_is (path_ok (unescape arg)) (unescape arg) path e in
    (ap path_ok (sym g.1) ∙ g.0, sym g.1)

former_ok : (arg : Option (List ℕ)) (former : Option (List ℕ)) → optional path_in arg ≡ Some former → list_all path_ok (option_to_list former) ≡ true
former_ok arg None e = refl
former_ok None (Some path) e = absurd cc
former_ok (Some arg) (Some path) e = by (path_in arg) refl e
  where
    by : (found : Option (List ℕ)) → path_in arg ≡ found → option_map Some found ≡ Some (Some path) → list_all path_ok (path ∷ []) ≡ true
    by None k f = absurd cc
    by (Some x) k f = and_from _ _ (path_of arg path (k ∙ inside f)).0 refl
      where
        inside : ◌≡◌ {A = Option (Option (List ℕ))} (Some (Some x)) (Some (Some path)) → ◌≡◌ {A = Option (List ℕ)} (Some x) (Some path)
        inside g = cc

perm_needs : (arg : List ℕ) (perm : Perm) (hash former : Bool) → perm_in arg ≡ Some perm → is_perm_placed perm hash former ≡ hash
perm_needs arg Plain hash former e = absurd (by (bytes_eq arg (120 ∷ [])) (bytes_eq arg (108 ∷ [])) (bytes_eq arg (119 ∷ [])) e)
  where
    by : (a b c : Bool) → cond a (Some Exec) (cond b (Some Symlink) (cond c (Some Writable) None)) ≡ Some Plain → ⊥
    by true b c f = cc
    by false true c f = cc
    by false false true f = cc
    by false false false f = cc
perm_needs arg Exec hash former e = refl
perm_needs arg Symlink hash former e = refl
perm_needs arg Writable hash former e = refl

perm_placed : (arg : Option (List ℕ)) (perm : Option Perm) (hash former : Bool) → optional perm_in arg ≡ Some perm → (is_some arg ≡ true → hash ≡ true) → (is_some arg ≡ false → former ≡ false) → is_perm_placed (perm_or_plain perm) hash former ≡ true
perm_placed None None hash former e needs none = rw (none refl) refl
perm_placed None (Some perm) hash former e needs none = absurd cc
perm_placed (Some arg) None hash former e needs none = absurd (by (perm_in arg) e)
  where
    by : (found : Option Perm) → ◌≡◌ {A = Option (Option Perm)} (option_map Some found) (Some None) → ⊥
    by None f = cc
    by (Some x) f = cc
perm_placed (Some arg) (Some perm) hash former e needs none = by (perm_in arg) refl e
  where
    by : (found : Option Perm) → perm_in arg ≡ found → option_map Some found ≡ Some (Some perm) → is_perm_placed perm hash former ≡ true
    by None k f = absurd cc
    by (Some x) k f = perm_needs arg perm hash former (k ∙ inside f) ∙ needs refl
      where
        inside : ◌≡◌ {A = Option (Option Perm)} (Some (Some x)) (Some (Some perm)) → ◌≡◌ {A = Option Perm} (Some x) (Some perm)
        inside g = cc

-- what a file that is read is
record IsFileOf (path : List ℕ) (f : FileCard) : Type 0 where
  written : is_file_written f ≡ true
  path_is : f.path ≡ unescape path

file_of : (path : List ℕ) (hash perm former : Option (List ℕ)) (f : FileCard) → (is_some perm ≡ true → is_some hash ≡ true) → (is_some perm ≡ false → is_some former ≡ false) → file_in path hash perm former ≡ Some f → IsFileOf path f
file_of path hash perm former f needs none e =
    let p = step (path_in path) _ f e in
    let h = step (optional ref_in hash) _ f p.2 in
    let m = step (optional perm_in perm) _ f h.2 in
    let o = step (optional path_in former) _ f m.2 in
    let ok = path_of path p.0 p.1 in
    let is : ◌≡◌ {A = FileCard} (record { path = p.0; hash = h.0; perm = perm_or_plain m.0; former = o.0 }) f = inside p.0 h.0 (perm_or_plain m.0) o.0 o.2 in
    let hashed = optional_some ref_in hash h.0 h.1 in
    let renamed = optional_some path_in former o.0 o.1 in
    subst (IsFileOf path) is (record {
      written = and_from _ _ (and_from _ _ ok.0 (former_ok former o.0 o.1)) (perm_placed perm m.0 (is_some h.0) (is_some o.0) m.1 (λ k. hashed ∙ needs k) (λ k. renamed ∙ none k));
      path_is = ok.1;
    })
  where
    inside : (p : List ℕ) (h : Option Ref) (m : Perm) (o : Option (List ℕ)) → Some (record { path = p; hash = h; perm = m; former = o }) ≡ Some f → ◌≡◌ {A = FileCard} (record { path = p; hash = h; perm = m; former = o }) f
    inside p h m o g = cc

file_read : (args : List (List ℕ)) (f : FileCard) → file_form args ≡ Some f → IsFileOf (first_of args) f
file_read [] f e = absurd cc
file_read (path ∷ []) f e = file_of path None None None f (λ k. k) (λ k. k) e
file_read (path ∷ hash ∷ []) f e = file_of path (Some hash) None None f (λ k. absurd cc) (λ k. k) e
file_read (path ∷ hash ∷ perm ∷ []) f e = file_of path (Some hash) (Some perm) None f (λ k. k) (λ k. refl) e
file_read (path ∷ hash ∷ perm ∷ former ∷ []) f e = file_of path (Some hash) (Some perm) (Some former) f (λ k. k) (λ k. absurd cc) e
file_read (a ∷ b ∷ c ∷ d ∷ x ∷ args) f e = absurd cc

-- ---- the order of files

path_before : (a b : Card) → a.letter ≡ 70 → b.letter ≡ 70 → may_follow a b ≡ true → is_before (unescape (first_argument a)) (unescape (first_argument b)) ≡ true
path_before a b ea eb h = by (a.letter) (b.letter) ea eb h
  where
    by : (m n : ℕ) → m ≡ 70 → n ≡ 70 → (nat_lt m n || ((m == n) && may_repeat m a b)) ≡ true → is_before (unescape (first_argument a)) (unescape (first_argument b)) ≡ true
    by m n em en k = rw (em, en) at k

abbrev some_files : List FileCard → List (Option FileCard)
some_files files = map Some files

rise_from : (cards : List Card) (files : List FileCard) → AllByRecursion (λ card. card.letter ≡ 70) cards → in_order cards ≡ true → map file_form (map (λ card. card.args) cards) ≡ some_files files → files_rise files ≡ true
rise_from cards [] letters h e = refl
rise_from cards (f ∷ []) letters h e = refl
rise_from [] (f ∷ g ∷ files) letters h e = absurd cc
rise_from (a ∷ []) (f ∷ g ∷ files) letters h e = absurd cc
rise_from (a ∷ b ∷ cards) (f ∷ g ∷ files) letters h e =
    let first = file_read a.args f (one e) in
    let second = file_read b.args g (two e) in
    and_from _ _ (rw (first.path_is, second.path_is) (path_before a b letters.0 letters.1.0 (first_holds _ (in_order (b ∷ cards)) h)))
    (rise_from (b ∷ cards) (g ∷ files) letters.1 (second_holds (may_follow a b) _ h) (rest e))
  where
    one : file_form a.args ∷ file_form b.args ∷ map file_form (map (λ card. card.args) cards) ≡ Some f ∷ Some g ∷ some_files files → file_form a.args ≡ Some f
    one k = cc

    two : file_form a.args ∷ file_form b.args ∷ map file_form (map (λ card. card.args) cards) ≡ Some f ∷ Some g ∷ some_files files → file_form b.args ≡ Some g
    two k = cc

    rest : file_form a.args ∷ file_form b.args ∷ map file_form (map (λ card. card.args) cards) ≡ Some f ∷ Some g ∷ some_files files → file_form b.args ∷ map file_form (map (λ card. card.args) cards) ≡ Some g ∷ some_files files
    rest k = cc

-- ---- the whole

pub well_formed_from : (text : List ℕ) (cards : List Card) (m : Manifest) → IsCards text cards → IsManifest cards m → is_well_formed m ≡ true
well_formed_from text cards m is h =
    let comment = each_given (λ args. list_all is_argument args ≡ true) text_form filled text_filled (arguments cards 67) (m.comment ∷ []) (fit_arguments cards 67 is.each) h.comment in
    let user = each_given (λ args. list_all is_argument args ≡ true) user_form filled user_filled (arguments cards 85) (m.user ∷ []) (fit_arguments cards 85 is.each) h.user in
    let mime = each_given (λ args. list_all is_argument args ≡ true) text_form filled text_filled (arguments cards 78) (option_to_list m.mime) (fit_arguments cards 78 is.each) h.mime in
    let files = each_given (λ args. list_all is_argument args ≡ true) file_form (λ f. is_file_written f ≡ true) (λ args f fit e. (file_read args f e).written) (arguments cards 70) m.files (fit_arguments cards 70 is.each) h.files in
    let tags = each_given (λ args. list_all is_argument args ≡ true) tag_form (λ t. is_tag_written t ≡ true) tag_read (arguments cards 84) m.tags (fit_arguments cards 84 is.each) h.tags in
    let rise = rise_from (of_it 70 cards) m.files (all_of_it 70 cards) (kept_in_order 70 cards is.ordered) h.files in
    and_from _ _ (and_from _ _ (and_from _ _ (and_from _ _ (and_from _ _ (and_from _ _ (and_from _ _ (and_from _ _
    comment.0 user.0) (optional_filled m.mime mime)) (all_true is_file_written m.files files)) rise) h.hashes) h.primary) h.parents.differ) (all_true is_tag_written m.tags tags)

-- a manifest can be written exactly where some text is it
pub is_exact : IsWrittenExactly
is_exact m typed moment = (
  λ w. let text = sealed_text (manifest_cards m) in (text, is_read_back m text typed moment w refl),
  λ t. well_formed_from t.0 t.1.0 m t.1.1 t.1.2,
)
