-- The files of a reply.
use Rattle.std.proofs.Common.{◌≡◌, ℕ, ◌<◌, zero, suc, get_or, arith, Bool, true, false, cond, not, List, [], ◌∷◌, ◌++◌, length, map, take, drop, Option, Some, None, refl, sym, ap, ◌∙◌}
use Rattle.std.specs.Prelude.{◌&&◌, ◌||◌, filter_map, flat_map, option_to_list, find, is_some, if◌then◌else◌}
use Rattle.std.specs.List.{AllByRecursion, list_any, cons_option}
use Rattle.std.specs.Option.{option_map, option_map_or}
use Rattle.std.specs.Str.{bytes_eq}
use Rattle.std.specs.FinMap as map_of
use Rattle.std.specs.Cmp.Lexicographic.{bytes_decides}
use Rattle.std.proofs.lemmas.List.Folds.{list_any-append}
use Rattle.fsl_order.specs.Names.{has}
use Rattle.fsl_order.specs.Rows.{ascending}
use Rattle.fsl_order.proofs.AscendingLemmas.{ascending-same, has-ascending}
use Rattle.fsl_record.specs.declared.Record.{Record}
use Rattle.fsl_record.specs.declared.Config.{Config}
use Rattle.fsl_blobs.specs.Fold.{Held, HeldSet, contents, held_from}
use Rattle.fsl_wire.specs.declared.Caps.{Caps}
use Rattle.fsl_wire.specs.declared.WireCard.{WireCard}
use Rattle.fsl_answer.specs.Contents as reply
use Rattle.fsl_answer.specs.Contents.{sent_file, taken_count}
use Rattle.fsl_answer.specs.Replies.{taken, reply_text, error_line, push_line, igot_line, gimme_line, file_lines, seqno_line}
use Rattle.fsl_answer.specs.declared.Lists.{Lists}
use Rattle.fsl_answer.specs.declared.SentFile.{SentFile}
use Rattle.fsl_repo.specs.Replies.{held_at, placed_in}
use Rattle.fsl_repo.specs.Sending.{DueFile, IsSized, as_due, as_held, due_of, sent_of, sent_files, sent_asked, public_on, files_by, told}
use Rattle.fsl_repo.specs.declared.sending.Due.{Due}
use Rattle.fsl_repo.specs.declared.placed.PlacedHolding.{PlacedHolding}

module _ (held : HeldSet) (name : List ℕ) (private : Bool) where
  abbrev at : ℕ × List ℕ → Option reply.Held
  at p = option_map (held_at p) (map_of.get held p.1)

  abbrev may : Bool → Bool
  may hidden = private || not hidden

  abbrev test : reply.Held → Bool
  test h = bytes_eq h.name name && may h.private

  abbrev found : List (ℕ × List ℕ) → Option reply.Held
  found ps = find test (filter_map at ps)

  abbrev found_with : (ℕ × List ℕ) → Option Held → List (ℕ × List ℕ) → Option reply.Held
  found_with p o ps = find test (cons_option (option_map (held_at p) o) (filter_map at ps))

  -- an entry of another name is passed over
  other_name : (p : ℕ × List ℕ) (ps : List (ℕ × List ℕ)) (o : Option Held) → bytes_eq p.1 name ≡ false → found_with p o ps ≡ found ps
  other_name p ps None e = refl
  other_name p ps (Some a) e = ap (λ (b : Bool). cond (b && may a.private) (Some (held_at p a)) (found ps)) e

  -- nothing is found where the name isn't held
  none_found : map_of.get held name ≡ None → (ps : List (ℕ × List ℕ)) → found ps ≡ None
  none_found none [] = refl
  none_found none (p ∷ ps) =
      elim (bytes_eq p.1 name) as (λ b. bytes_eq p.1 name ≡ b → found (p ∷ ps) ≡ None) [
        | true ↦ λ e. ap (λ (o : Option Held). found_with p o ps) (ap (map_of.get held) ((bytes_decides p.1 name).0 e) ∙ none) ∙ none_found none ps
        | false ↦ λ e. other_name p ps (map_of.get held p.1) e ∙ none_found none ps
      ] refl

  module _ (a : Held) (there : map_of.get held name ≡ Some a) where
    here : (p : ℕ × List ℕ) (ps : List (ℕ × List ℕ)) → bytes_eq p.1 name ≡ true → found (p ∷ ps) ≡ cond (may a.private) (Some (held_at p a)) (found ps)
    here p ps e =
        ap (λ (o : Option Held). found_with p o ps) (ap (map_of.get held) ((bytes_decides p.1 name).0 e) ∙ there)
        ∙ ap (λ (b : Bool). cond (b && may a.private) (Some (held_at p a)) (found ps)) e

    hidden : may a.private ≡ false → (ps : List (ℕ × List ℕ)) → found ps ≡ None
    hidden closed [] = refl
    hidden closed (p ∷ ps) =
        elim (bytes_eq p.1 name) as (λ b. bytes_eq p.1 name ≡ b → found (p ∷ ps) ≡ None) [
          | true ↦ λ e. here p ps e ∙ ap (λ (b : Bool). cond b (Some (held_at p a)) (found ps)) closed ∙ hidden closed ps
          | false ↦ λ e. other_name p ps (map_of.get held p.1) e ∙ hidden closed ps
        ] refl

    shown : may a.private ≡ true → (ps : List (ℕ × List ℕ)) → list_any (λ p. bytes_eq p.1 name) ps ≡ true → option_map sent_file (found ps) ≡ Some (record { name = name; private = a.private; bytes = a.bytes })
    shown open_ [] any = absurd cc
    shown open_ (p ∷ ps) any =
        elim (bytes_eq p.1 name) as (λ b. bytes_eq p.1 name ≡ b → (b || list_any (λ p. bytes_eq p.1 name) ps) ≡ true → option_map sent_file (found (p ∷ ps)) ≡ Some (record { name = name; private = a.private; bytes = a.bytes })) [
          | true ↦ λ e _.
              ap (option_map sent_file) (here p ps e ∙ ap (λ (b : Bool). cond b (Some (held_at p a)) (found ps)) open_)
              ∙ ap (λ (n : List ℕ). Some (record { name = n; private = a.private; bytes = a.bytes })) ((bytes_decides p.1 name).0 e)
          | false ↦ λ e rest. ap (option_map sent_file) (other_name p ps (map_of.get held p.1) e) ∙ shown open_ ps rest
        ] refl any

  sent_by : (o : Option Held) → map_of.get held name ≡ o → (ps : List (ℕ × List ℕ)) → (map_of.contains_key held name ≡ true → list_any (λ p. bytes_eq p.1 name) ps ≡ true) → option_map sent_file (found ps) ≡ sent_of private name o
  sent_by None is ps all = ap (option_map sent_file) (none_found is ps)
  sent_by (Some a) is ps all =
      elim (may a.private) as (λ b. may a.private ≡ b → option_map sent_file (found ps) ≡ (if b then Some (record { name = name; private = a.private; bytes = a.bytes }) else None)) [
        | true ↦ λ e. shown a is e ps (all (ap some is))
        | false ↦ λ e. ap (option_map sent_file) (hidden a is e ps)
      ] refl
    where
      some : Option Held → Bool
      some None = false
      some (Some a) = true

  -- what may be sent of a name
  pub sent_is : (ps : List (ℕ × List ℕ)) → (map_of.contains_key held name ≡ true → list_any (λ p. bytes_eq p.1 name) ps ≡ true) → option_map sent_file (found ps) ≡ sent_of private name (map_of.get held name)
  sent_is ps all = sent_by (map_of.get held name) refl ps all

map_cons : {Y Z : Type 0} (f : Y → Z) (o : Option Y) (ys : List Y) → map f (cons_option o ys) ≡ cons_option (option_map f o) (map f ys)
map_cons f None ys = refl
map_cons f (Some y) ys = refl

pub map_filter_map : {X Y Z : Type 0} (f : Y → Z) (g : X → Option Y) (xs : List X) → map f (filter_map g xs) ≡ filter_map (λ x. option_map f (g x)) xs
map_filter_map f g [] = refl
map_filter_map f g (x ∷ xs) = map_cons f (g x) (filter_map g xs) ∙ ap (cons_option (option_map f (g x))) (map_filter_map f g xs)

filter_map_agree : {X Y : Type 0} (f g : X → Option Y) → ((x : X) → f x ≡ g x) → (xs : List X) → filter_map f xs ≡ filter_map g xs
filter_map_agree f g same [] = refl
filter_map_agree f g same (x ∷ xs) = λ i. cons_option (same x i) (filter_map_agree f g same xs i)

map_take : {X Y : Type 0} (f : X → Y) (n : ℕ) (xs : List X) → map f (take n xs) ≡ take n (map f xs)
map_take f zero xs = refl
map_take f (suc n) [] = refl
map_take f (suc n) (x ∷ xs) = ap (λ ys. f x ∷ ys) (map_take f n xs)

-- ---- the files of a reply

sizes_alike : (files : List reply.Held) → map (λ f. length f.bytes) (map sent_file files) ≡ map (λ h. length h.bytes) files
sizes_alike [] = refl
sizes_alike (h ∷ files) = ap (λ ns. length h.bytes ∷ ns) (sizes_alike files)

pub sent_all : (files : List reply.Held) → sent_files (map sent_file files) ≡ map sent_file (take (taken_count files) files)
sent_all files = ap (λ ns. take (taken ns) (map sent_file files)) (sizes_alike files) ∙ sym (map_take sent_file (taken_count files) files)

module _ (records : List Record) (all : (name : List ℕ) → map_of.contains_key (contents records).held name ≡ true → list_any (λ p. bytes_eq p.1 name) (held_from records 0) ≡ true)
    (s : reply.State) (are : s.held ≡ placed_in records) (message : List WireCard) (caps : Caps) where
  abbrev private : Bool
  private = reply.sends_private message caps

  abbrev names : List (List ℕ)
  names = reply.each_once [] (filter_map reply.gimme_of message)

  -- what gimme cards ask for
  asked_is : sent_asked records private message ≡ map sent_file (filter_map (reply.sendable s private) names)
  asked_is =
      sym (map_filter_map sent_file (reply.sendable s private) names
      ∙ filter_map_agree (λ name. option_map sent_file (reply.sendable s private name)) (λ name. sent_of private name (map_of.get (contents records).held name))
      (λ name.
      ap (λ (held : List reply.Held). option_map sent_file (find (λ h. bytes_eq h.name name && (private || not h.private)) held)) are
      ∙ sent_is (contents records).held name private (held_from records 0) (all name)) names)

  abbrev chosen : Option ℕ → List reply.Held
  chosen from = reply.candidates s message caps from

  -- the files, and where a clone goes on
  abbrev due : Option ℕ → List SentFile × Option ℕ
  due from = (map sent_file (take (taken_count (chosen from)) (chosen from)), option_map (λ place. reply.sequel (chosen from)) from)

  by_place : (from : Option ℕ)
      → option_map_or (λ place. (sent_files (map sent_file (public_on place (placed_in records))), Some (reply.sequel (public_on place (placed_in records))))) from
      (if list_any reply.is_pull message || is_some (reply.first_clone message) then (sent_files (sent_asked records private message), None) else ([], None)) ≡ due from
  by_place (Some place) =
      (λ i. (sent_files (map sent_file (public_on place (sym are i))), Some (reply.sequel (public_on place (sym are i)))))
      ∙ (λ i. (sent_all (public_on place s.held) i, Some (reply.sequel (public_on place s.held))))
  by_place None =
      elim (list_any reply.is_pull message || is_some (reply.first_clone message)) as (λ b. ◌≡◌ {A = List SentFile × Option ℕ} (if b then (sent_files (sent_asked records private message), None) else ([], None))
      (map sent_file (take (taken_count (if b then filter_map (reply.sendable s private) names else [])) (if b then filter_map (reply.sendable s private) names else [])), None)) [
        | true ↦ λ i. ((ap sent_files asked_is ∙ sent_all (filter_map (reply.sendable s private) names)) i, None)
        | false ↦ refl
      ]

  pub files_are : files_by records (placed_in records) message private (reply.first_clone message) ≡ due (reply.asks_from (reply.first_clone message))
  files_are = by_place (reply.asks_from (reply.first_clone message))

-- ---- files that are due

-- an artifact that is lent, as a file without its bytes
abbrev pub lent_due : PlacedHolding → DueFile
lent_due p = (p.holding.name, p.holding.private, p.holding.size)

pub lent_sized : (held : List PlacedHolding) → AllByRecursion IsSized held → map lent_due held ≡ map due_of (map sent_file (map as_held held))
lent_sized [] all = refl
lent_sized (p ∷ held) all = λ i. (p.holding.name, p.holding.private, all.0 i) ∷ lent_sized held all.1 i

due_sizes : (due : List Due) → map (λ d. d.size) due ≡ map (λ t. t.2) (map as_due due)
due_sizes [] = refl
due_sizes (d ∷ due) = ap (λ ns. d.size ∷ ns) (due_sizes due)

file_sizes : (files : List SentFile) → map (λ f. length f.bytes) files ≡ map (λ t. t.2) (map due_of files)
file_sizes [] = refl
file_sizes (f ∷ files) = ap (λ ns. length f.bytes ∷ ns) (file_sizes files)

due_names : (due : List Due) → map (λ d. d.name) due ≡ map (λ t. t.0) (map as_due due)
due_names [] = refl
due_names (d ∷ due) = ap (λ ns. d.name ∷ ns) (due_names due)

file_names : (files : List SentFile) → map (λ f. f.name) files ≡ map (λ t. t.0) (map due_of files)
file_names [] = refl
file_names (f ∷ files) = ap (λ ns. f.name ∷ ns) (file_names files)

module _ (due : List Due) (files : List SentFile) (same : map as_due due ≡ map due_of files) where
  sizes_are : map (λ d. d.size) due ≡ map (λ f. length f.bytes) files
  sizes_are = due_sizes due ∙ ap (map (λ (t : DueFile). t.2)) same ∙ sym (file_sizes files)

  pub names_are : map (λ d. d.name) due ≡ map (λ f. f.name) files
  names_are = due_names due ∙ ap (map (λ (t : DueFile). t.0)) same ∙ sym (file_names files)

  -- as many as the budget takes
  pub taken_due : (n : ℕ) → n ≡ taken (map (λ d. d.size) due) → map as_due (take n due) ≡ map due_of (sent_files files)
  taken_due n is =
      map_take as_due n due ∙ ap (take n) same ∙ sym (map_take due_of n files)
      ∙ ap (λ (k : ℕ). map due_of (take k files)) (is ∙ ap taken sizes_are)

pub count_is : (due : List Due) (held : List PlacedHolding) → map as_due due ≡ map due_of (map sent_file (map as_held held)) → taken (map (λ d. d.size) due) ≡ taken_count (map as_held held)
count_is due held same = ap taken (sizes_are due (map sent_file (map as_held held)) same ∙ sizes_alike (map as_held held))

-- ---- artifacts that are lent

pub place_at : (held : List PlacedHolding) (n : ℕ) (x : PlacedHolding) → n < length held → x ≡ get_or held n x → x.place ≡ reply.place_or_zero (reply.first_of (drop n (map as_held held)))
place_at [] n x lt is = absurd (omega (arith, lt))
place_at (p ∷ held) zero x lt is = ap (λ (p : PlacedHolding). p.place) is
place_at (p ∷ held) (suc n) x lt is = place_at held n x (omega (arith, lt)) is

-- ---- names that are told

pub told_is : (public private : List (List ℕ)) → map (λ name. (name, has (ascending private) name)) (ascending (public ++ private)) ≡ told public private
told_is public private = λ i. map (λ name. (name, has-ascending private name i)) (ascending (public ++ private))

pub asked_ascending : (wanted announced : List (List ℕ)) → ascending (wanted ++ ascending announced) ≡ ascending (wanted ++ announced)
asked_ascending wanted announced =
    ascending-same (wanted ++ ascending announced) (wanted ++ announced)
    (λ q. list_any-append (bytes_eq q) wanted (ascending announced) ∙ ap (λ (b : Bool). has wanted q || b) (has-ascending announced q) ∙ sym (list_any-append (bytes_eq q) wanted announced))

-- the codes for a clone
pub codes_are : (config : Option Config) (is : Config) → config ≡ Some is → (clone : Option (ℕ × ℕ))
    → option_map {T = ℕ × ℕ} {U = List ℕ × List ℕ} (λ numbers. (is.server, is.project)) clone
    ≡ option_map {T = ℕ × ℕ} {U = List ℕ × List ℕ} (λ numbers. (option_map_or (λ c. c.server) config [], option_map_or (λ c. c.project) config [])) clone
codes_are config is some clone = λ i. option_map {T = ℕ × ℕ} {U = List ℕ × List ℕ} (λ numbers. (option_map_or (λ c. c.server) (sym some i) [], option_map_or (λ c. c.project) (sym some i) [])) clone

take_again : {X : Type 0} (n : ℕ) (xs : List X) → take n (take n xs) ≡ take n xs
take_again zero xs = refl
take_again (suc n) [] = refl
take_again (suc n) (x ∷ xs) = ap (λ ys. x ∷ ys) (take_again n xs)

-- only the first 100 notices are sent
pub notices_cut : (due lists : Lists) → lists ≡ record due { notices = take 100 due.notices } → reply_text lists ≡ reply_text due
notices_cut due lists is =
    ap reply_text is
    ∙ ap (λ (notices : List (List ℕ)).
    flat_map error_line notices
    ++ flat_map push_line (option_to_list due.codes)
    ++ flat_map igot_line due.igots
    ++ flat_map gimme_line due.gimmes
    ++ flat_map file_lines due.files
    ++ flat_map seqno_line (option_to_list due.sequel)) (take_again 100 due.notices)
