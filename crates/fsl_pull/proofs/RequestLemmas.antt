-- The bytes of a push.
use Rattle.std.specs.Prelude.{◌≡◌, ℕ, ◌+◌, ◌<◌, ◌≤◌, ◌||◌, Bool, true, List, [], ◌∷◌, ◌++◌, length, take, drop, get_or, map, Option, Some, None}
use Rattle.std.specs.Str.{bytes_eq}
use Rattle.std.specs.Cmp.Lexicographic.{bytes_decides}
use Rattle.std.specs.Option.{option_map_or}
use Rattle.std.proofs.Common.{refl, sym, ap, subst, ◌∙◌, inl, inr, append_assoc}
use Rattle.std.proofs.lemmas.Bool.{or_right}
use Rattle.fsl_order.specs.Names.{has}
use Rattle.std.proofs.lemmas.List.{append-nil, map-append, take_all}
use Rattle.std.proofs.lemmas.List.Concat.{flat_map-append}
use Rattle.fsl_name.specs.Name.{name_text}
use Rattle.fsl_record.specs.declared.Config.{Config}
use Rattle.fsl_wire.specs.declared.WireCard.TheVariants as cards
use Rattle.fsl_wire.specs.Writing.{card_bytes, message_bytes}
use Rattle.fsl_blobs.specs.Fold.{Contents}
use Rattle.fsl_repo.specs.Machine.{State, now}
use Rattle.fsl_pull.specs.declared.PullFault.{PullFault}
use Rattle.fsl_pull.specs.Reads.{IsPublicRead, FileFails, FilesFail, ArePut, IsPushed}
use Rattle.fsl_pull.specs.declared.Login.{Login}
use Rattle.fsl_pull.specs.Requests.{signed_bytes, request_bytes, push_cards, igot_card, file_card}
use Rattle.fsl_pull.specs.Pushes.{AreRead}
use Rattle.fsl_pull.proofs.ReadLemmas.{more_read, around_name, name_on}

abbrev Names : Type 0
Names = List (List ℕ)

abbrev Files : Type 0
Files = List (List ℕ × List ℕ)

-- the bytes of files
abbrev pub files_bytes : Files → List ℕ
files_bytes files = message_bytes (map file_card files)

bytes_both : (xs ys : Files) → files_bytes (xs ++ ys) ≡ files_bytes xs ++ files_bytes ys
bytes_both xs ys = ap message_bytes (map-append file_card xs ys) ∙ flat_map-append card_bytes (map file_card xs) (map file_card ys)

-- no name
pub none_put : (s : State) (into : List ℕ) → ArePut s [] into into
none_put s into = ([], tt, sym (append-nil into))

-- one name more
pub files_on : (s : State) (names : Names) (i : ℕ) (name : List ℕ) (old into more : List ℕ) → i < length names → name ≡ get_or names i name → ArePut s (take i names) old into → ArePut s (name ∷ []) into more → ArePut s (take (i + 1) names) old more
files_on s names i name old into more lt is (xs, read, before) (ys, one, now) = (
  xs ++ ys,
  subst (λ (ns : Names). AreRead s ns (xs ++ ys)) (sym (name_on names i name lt is)) (more_read s (take i names) (name ∷ []) xs ys read one),
  now ∙ ap (λ (b : List ℕ). b ++ files_bytes ys) before ∙ append_assoc old (files_bytes xs) (files_bytes ys) ∙ ap (λ (b : List ℕ). old ++ b) (sym (bytes_both xs ys)),
)

pub files_done : (s : State) (names : Names) (i : ℕ) (old more : List ℕ) → length names ≤ i → ArePut s (take i names) old more → ArePut s names old more
files_done s names i old more le h = subst (λ (ns : Names). ArePut s ns old more) (take_all i names le) h

-- no file of a name
pub none_of_name : (s : State) (name into : List ℕ) → IsPublicRead s name None → ArePut s (name ∷ []) into into
none_of_name s name into h = ([], h.read, sym (append-nil into))

-- the file of a name
pub file_of_name : (s : State) (name text into more : List ℕ) → IsPublicRead s name (Some text) → more ≡ into ++ card_bytes (cards.File name text) → ArePut s (name ∷ []) into more
file_of_name s name text into more h now = ((name, text) ∷ [], h.read, now ∙ ap (λ (b : List ℕ). into ++ b) (sym (append-nil (card_bytes (cards.File name text)))))

-- one of some names whose file isn't read
pub one_fails : (why : PullFault) (s left : State) (names : Names) (i : ℕ) (name : List ℕ) → i < length names → name ≡ get_or names i name → FileFails why s name left → FilesFail why s names left
one_fails why s left names i name lt is (inl memory) = inl memory
one_fails why s left names i name lt is (inr (public, cant)) = inr (name, among (around_name names i name lt is), cant)
  where
    among_by : (front rest : Names) → has (front ++ name ∷ rest) name ≡ true
    among_by [] rest = ap (λ (b : Bool). b || has rest name) ((bytes_decides name name).1 refl)
    among_by (x ∷ front) rest = or_right (bytes_eq name x) (has (front ++ name ∷ rest) name) (among_by front rest)

    among : names ≡ take i names ++ name ∷ drop (i + 1) names → has names name ≡ true
    among e = ap (λ (ns : Names). has ns name) e ∙ among_by (take i names) (drop (i + 1) names)

-- the whole of a push
pub pushed : (login : Option Login) (c : Contents) (config : Config) (names : Names) (files : List (List ℕ × List ℕ)) (front whole : List ℕ) → c.config ≡ Some config
    → front ≡ message_bytes (cards.Push (name_text config.server) (name_text config.project) ∷ map igot_card names) → whole ≡ front ++ message_bytes (map file_card files)
    → signed_bytes login whole ≡ request_bytes login (push_cards c names files)
pushed login c config names files front whole has is_front is_whole =
    ap (signed_bytes login) (
    is_whole ∙ ap (λ (b : List ℕ). b ++ message_bytes (map file_card files)) is_front
    ∙ sym (flat_map-append card_bytes (cards.Push (name_text config.server) (name_text config.project) ∷ map igot_card names) (map file_card files))
    ∙ (λ i. message_bytes (cards.Push (option_map_or (λ k. name_text k.server) (sym has i) []) (option_map_or (λ k. name_text k.project) (sym has i) []) ∷ map igot_card names ++ map file_card files))
    )

-- with the files of some names as they are read
pub pushed_with : (login : Option Login) (s : State) (config : Config) (names due : Names) (front whole text : List ℕ) → (now s).config ≡ Some config
    → front ≡ message_bytes (cards.Push (name_text config.server) (name_text config.project) ∷ map igot_card names) → ArePut s due front whole → text ≡ signed_bytes login whole → IsPushed login s names due text
pushed_with login s config names due front whole text has is_front (files, read, is_whole) is_text =
    (files, read, is_text ∙ pushed login (now s) config names files front whole has is_front is_whole)
