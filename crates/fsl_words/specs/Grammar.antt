-- The grammar of the words after the program's name.
use Rattle.std.specs.Prelude.{ℕ, ◌==◌, ◌&&◌, ◌||◌, nat_le, Bool, true, false, not, List, [], ◌∷◌, length, Option, Some, None, option_map, option_and_then, if◌then◌else◌, codes, slice_index}
use Rattle.std.specs.List.{list_all}
use Rattle.std.specs.Str.{bytes_eq}
use Rattle.fsl_order.specs.Names.{has}
use Rattle.fsl_text.specs.Bytes.{is_empty}
use Rattle.fsl_text.specs.Decimals.{is_decimal_text, decimal_value}
use Rattle.fsl_text.specs.Paths.{path_ok}
use Rattle.fsl_name.specs.Name.{name_in, is_name_digit}
use Rattle.fsl_record.specs.Records.{is_field}
use Rattle.fsl_words.specs.declared.Question.{Question}
use Rattle.fsl_words.specs.declared.Question.TheVariants.{Cat, Receipt, Timeline, Leaves, Tags, Tip, Files, Wiki, Ticket, Thread, Phantoms, Info, Branches, Pages, Tickets, Threads}
use Rattle.fsl_words.specs.declared.Command.{Command}
use Rattle.fsl_words.specs.declared.Command.TheVariants.{Init, Ingest, Put, Shun, Unshun, Ask, Serve, Gen, Pull, Push, Clone, PullLocal, Checkin, Export, Verify, Scrub, Unversioned as OfUnversioned}
use Rattle.fsl_words.specs.declared.Unversioned.TheVariants as uv
use Rattle.fsl_words.specs.declared.Words.{Words}

-- a word has a byte, and doesn't begin with `-` unless it is `-` alone
abbrev pub is_word : List ℕ → Bool
is_word word = not (is_empty word) && (bytes_eq word (45 ∷ []) || not (slice_index word 0 == 45))

-- 4 to 40 digits of a name
abbrev pub is_prefix : List ℕ → Bool
is_prefix word = nat_le 4 (length word) && nat_le (length word) 40 && list_all is_name_digit word

-- the word, where it is such digits
abbrev pub prefix_in : List ℕ → Option (List ℕ)
prefix_in word = if is_prefix word then Some word else None

-- a decimal number from 1 to the greatest one
abbrev pub is_up_to : ℕ → List ℕ → Bool
is_up_to most word = is_decimal_text word && nat_le 1 (decimal_value word) && nat_le (decimal_value word) most

-- the number, where the word is such a number
abbrev pub number_in : ℕ → List ℕ → Option ℕ
number_in most word = if is_up_to most word then Some (decimal_value word) else None

-- whether the words differ
abbrev pub all_differ : List (List ℕ) → Bool
all_differ [] = true
all_differ (word ∷ words) = not (has words word) && all_differ words

-- configured fields: each in its form, all different, at most 256
abbrev pub are_fields : List (List ℕ) → Bool
are_fields fields = list_all is_field fields && all_differ fields && nat_le (length fields) 256

-- the words, where they are configured fields
abbrev pub fields_in : List (List ℕ) → Option (List (List ℕ))
fields_in words = if are_fields words then Some words else None

-- init PROJECT SERVER [FIELD ...]
abbrev pub init_command : List (List ℕ) → Option Command
init_command (project ∷ server ∷ fields) = option_and_then (λ p. option_and_then (λ s. option_map (Init p s) (fields_in fields)) (name_in server)) (name_in project)
init_command words = None

-- serve ADDRESS USERS WORKERS N: 1 to 16 workers, and 1 to 65,536 connections for each
abbrev pub serve_command : List (List ℕ) → Option Command
serve_command (address ∷ users ∷ workers ∷ requests ∷ []) = option_and_then (λ w. option_map (Serve address users w) (number_in 65536 requests)) (number_in 16 workers)
serve_command words = None

-- `gen` of so many artifacts, in their order or from its end: 1 to 100,000
abbrev pub gen_of : Bool → List ℕ → Option Command
gen_of reversed count = option_map (λ n. Gen n reversed) (number_in 100000 count)

-- gen N, and gen N reversed
abbrev pub gen_command : List (List ℕ) → Option Command
gen_command (count ∷ []) = gen_of false count
gen_command (count ∷ order ∷ []) = if bytes_eq order (codes "reversed") then gen_of true count else None
gen_command words = None

-- the user and the secret of a login stand together or not at all
abbrev pub login_in : List (List ℕ) → Option (Option (List ℕ × List ℕ))
login_in [] = Some None
login_in (user ∷ secret ∷ []) = Some (Some (user, secret))
login_in words = None

-- ADDRESS [USER SECRET]
abbrev pub served_in : List (List ℕ) → Option (List ℕ × Option (List ℕ × List ℕ))
served_in [] = None
served_in (address ∷ words) = option_map (λ login. (address, login)) (login_in words)

-- pull ADDRESS [USER SECRET]
abbrev pub pull_command : List (List ℕ) → Option Command
pull_command words = option_map (λ (s : List ℕ × Option (List ℕ × List ℕ)). Pull s.0 s.1) (served_in words)

-- push ADDRESS [USER SECRET]
abbrev pub push_command : List (List ℕ) → Option Command
push_command words = option_map (λ (s : List ℕ × Option (List ℕ × List ℕ)). Push s.0 s.1) (served_in words)

-- clone ADDRESS SERVER [FIELD ...]
abbrev pub clone_command : List (List ℕ) → Option Command
clone_command (address ∷ server ∷ fields) = option_and_then (λ s. option_map (Clone address s) (fields_in fields)) (name_in server)
clone_command words = None

-- `-` for no parent, or a prefix
abbrev pub parent_in : List ℕ → Option (Option (List ℕ))
parent_in word = if bytes_eq word (codes "-") then Some None else option_map Some (prefix_in word)

-- checkin PARENT USER COMMENT
abbrev pub checkin_command : List (List ℕ) → Option Command
checkin_command (parent ∷ user ∷ comment ∷ []) = option_map (λ p. Checkin p user comment) (parent_in parent)
checkin_command words = None

-- the most bytes of the path of an unversioned file
abbrev pub most_of_path : ℕ
most_of_path = 512

-- whether an unversioned file may have this path
abbrev pub is_path : List ℕ → Bool
is_path word = path_ok word && nat_le (length word) most_of_path

-- the word, where it is such a path
abbrev pub path_in : List ℕ → Option (List ℕ)
path_in word = if is_path word then Some word else None

-- uv-init PROJECT SERVER
abbrev pub uv_init_command : List (List ℕ) → Option Command
uv_init_command (project ∷ server ∷ []) = option_and_then (λ p. option_map (λ s. OfUnversioned (uv.Init p s)) (name_in server)) (name_in project)
uv_init_command words = None

-- tickets [FIELD ...]
abbrev pub tickets_command : List (List ℕ) → Option Command
tickets_command words = option_map (λ fields. Ask (Tickets fields)) (fields_in words)

-- a report command without words
abbrev pub bare_question : List ℕ → Option Question
bare_question command =
    if bytes_eq command (codes "leaves") then Some Leaves
    else if bytes_eq command (codes "phantoms") then Some Phantoms
    else if bytes_eq command (codes "info") then Some Info
    else if bytes_eq command (codes "branches") then Some Branches
    else if bytes_eq command (codes "pages") then Some Pages
    else if bytes_eq command (codes "threads") then Some Threads
    else None

-- a command without words
abbrev pub bare_command : List ℕ → Option Command
bare_command command =
    if bytes_eq command (codes "ingest") then Some Ingest
    else if bytes_eq command (codes "put") then Some Put
    else if bytes_eq command (codes "uv-list") then Some (OfUnversioned uv.List)
    else option_map Ask (bare_question command)

-- a report command with one word
abbrev pub question_in : List ℕ → List ℕ → Option Question
question_in command word =
    if bytes_eq command (codes "cat") then option_map Cat (prefix_in word)
    else if bytes_eq command (codes "receipt") then option_map Receipt (prefix_in word)
    else if bytes_eq command (codes "timeline") then option_map Timeline (number_in 1000000 word)
    else if bytes_eq command (codes "tags") then option_map Tags (prefix_in word)
    else if bytes_eq command (codes "tip") then Some (Tip word)
    else if bytes_eq command (codes "files") then option_map Files (prefix_in word)
    else if bytes_eq command (codes "wiki") then Some (Wiki word)
    else if bytes_eq command (codes "ticket") then option_map Ticket (prefix_in word)
    else if bytes_eq command (codes "thread") then option_map Thread (prefix_in word)
    else None

-- a command of unversioned files or a report command, with one word
abbrev pub other_command : List ℕ → List ℕ → Option Command
other_command command word =
    if bytes_eq command (codes "uv-add") then option_map (λ p. OfUnversioned (uv.Add p)) (path_in word)
    else if bytes_eq command (codes "uv-remove") then option_map (λ p. OfUnversioned (uv.Remove p)) (path_in word)
    else if bytes_eq command (codes "uv-cat") then option_map (λ p. OfUnversioned (uv.Cat p)) (path_in word)
    else if bytes_eq command (codes "uv-sync") then Some (OfUnversioned (uv.Sync word))
    else option_map Ask (question_in command word)

-- `shun`, `unshun`, `pull-local`, `export`, `verify`, `scrub`, or another command with one word
abbrev pub worded_command : List ℕ → List ℕ → Option Command
worded_command command word =
    if bytes_eq command (codes "shun") then option_map Shun (name_in word)
    else if bytes_eq command (codes "unshun") then option_map Unshun (name_in word)
    else if bytes_eq command (codes "pull-local") then Some (PullLocal word)
    else if bytes_eq command (codes "export") then option_map Export (prefix_in word)
    else if bytes_eq command (codes "verify") then option_map Verify (prefix_in word)
    else if bytes_eq command (codes "scrub") then Some (Scrub word)
    else other_command command word

-- a command by its first word and the words behind it
abbrev pub plain_command : List ℕ → List (List ℕ) → Option Command
plain_command command [] = bare_command command
plain_command command (word ∷ []) = worded_command command word
plain_command command words = None

-- `init`, `serve`, `gen`, `pull`, `push`, `clone`, `checkin`, `uv-init`, `tickets`, or another command
abbrev pub command_in : List ℕ → List (List ℕ) → Option Command
command_in command words =
    if bytes_eq command (codes "init") then init_command words
    else if bytes_eq command (codes "serve") then serve_command words
    else if bytes_eq command (codes "gen") then gen_command words
    else if bytes_eq command (codes "pull") then pull_command words
    else if bytes_eq command (codes "push") then push_command words
    else if bytes_eq command (codes "clone") then clone_command words
    else if bytes_eq command (codes "checkin") then checkin_command words
    else if bytes_eq command (codes "uv-init") then uv_init_command words
    else if bytes_eq command (codes "tickets") then tickets_command words
    else plain_command command words

-- a repository and a command
abbrev pub parts_in : List (List ℕ) → Option Words
parts_in (repository ∷ command ∷ words) = option_map (λ c. record { repository = repository; command = c }) (command_in command words)
parts_in words = None

-- what the words are; none where they are outside the grammar
abbrev pub words_in : List (List ℕ) → Option Words
words_in words = if list_all is_word words then parts_in words else None
