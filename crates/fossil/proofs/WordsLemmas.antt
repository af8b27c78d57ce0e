-- What words say, as a command that can be obeyed.
use Rattle.std.proofs.Common.{◌≡◌, ℕ, ◌<◌, ◌≤◌, Bool, true, false, not, cond, List, [], ◌∷◌, length, Option, Some, None, IsTrue, refl, ap, subst, arith}
use Rattle.std.specs.Prelude.{◌&&◌, nat_le, IfSome, option_and_then, codes}
use Rattle.std.specs.Option.{option_map}
use Rattle.std.specs.List.{IsDistinct, AllByRecursion, list_any, list_all}
use Rattle.std.specs.Str.{bytes_eq}
use Rattle.std.proofs.lemmas.Bool.{and_parts, or_parts, not-true}
use Rattle.fsl_order.specs.Names.{has}
use Rattle.fsl_name.specs.Name.{name_in}
use Rattle.fsl_text.specs.Decimals.{is_decimal_text, decimal_value}
use Rattle.fsl_record.specs.Records.{is_field, AreFields}
use Rattle.fsl_order.proofs.Booleans.{first_holds, second_holds}
use Rattle.fsl_words.specs.declared.Question.{Question}
use Rattle.fsl_words.specs.declared.Question.TheVariants as question_of
use Rattle.fsl_words.specs.declared.Command.{Command}
use Rattle.fsl_words.specs.declared.Command.TheVariants as command_of
use Rattle.fsl_words.specs.declared.Unversioned.{Unversioned}
use Rattle.fsl_words.specs.declared.Unversioned.TheVariants as uv
use Rattle.fsl_words.specs.declared.Words.{Words}
use Rattle.fsl_words.specs.Grammar.{words_in, parts_in, command_in, plain_command, other_command, bare_question, question_in, init_command, serve_command, gen_command, clone_command, checkin_command, uv_init_command, served_in, prefix_in, parent_in, path_in, is_path, number_in, is_up_to, fields_in, are_fields, all_differ, is_word}
use Rattle.fossil.specs.Outcome.{said}
use Rattle.fossil.specs.Unversioned.{IsUvObeyable}
use Rattle.fossil.specs.Acts.{IsObeyable}

-- ---- fields

none_equal : (word : List ℕ) (words : List (List ℕ)) → list_any (bytes_eq word) words ≡ false → AllByRecursion (λ w. bytes_eq word w ≡ false) words
none_equal word [] e = tt
none_equal word (w ∷ words) e = let parts = or_parts (bytes_eq word w) (list_any (bytes_eq word) words) e in (parts.0, none_equal word words parts.1)

distinct : (words : List (List ℕ)) → all_differ words ≡ true → IsDistinct bytes_eq words
unfolding IsDistinct
distinct [] e = tt
distinct (word ∷ words) e =
    let parts = and_parts (not (has words word)) (all_differ words) e in
    (none_equal word words (not-true (has words word) parts.0), distinct words parts.1)

few : (n : ℕ) → nat_le n 256 ≡ true → n ≤ 256
few n e = grind (arith)

fields_fit : (fields : List (List ℕ)) → are_fields fields ≡ true → AreFields fields
fields_fit fields e =
    let parts = and_parts (list_all is_field fields && all_differ fields) (nat_le (length fields) 256) e in
    let more = and_parts (list_all is_field fields) (all_differ fields) parts.0 in
    record { few = few (length fields) parts.1; formed = more.0; differ = distinct fields more.1 }

-- ---- commands

abbrev Obeyed : Option Command → Type 0
Obeyed o = IfSome o IsObeyable

fields_by : (project server : List ℕ) (fields : List (List ℕ)) (fit : Bool) → are_fields fields ≡ fit → Obeyed (option_map (command_of.Init project server) (cond fit (Some fields) None))
fields_by project server fields true e = fields_fit fields e
fields_by project server fields false e = tt

server_by : (project : List ℕ) (fields : List (List ℕ)) (server : Option (List ℕ)) → Obeyed (option_and_then (λ s. option_map (command_of.Init project s) (fields_in fields)) server)
server_by project fields None = tt
server_by project fields (Some server) = fields_by project server fields (are_fields fields) refl

project_by : (server : List ℕ) (fields : List (List ℕ)) (project : Option (List ℕ)) → Obeyed (option_and_then (λ p. option_and_then (λ s. option_map (command_of.Init p s) (fields_in fields)) (name_in server)) project)
project_by server fields None = tt
project_by server fields (Some project) = server_by project fields (name_in server)

init_obeyed : (words : List (List ℕ)) → Obeyed (init_command words)
init_obeyed [] = tt
init_obeyed (project ∷ []) = tt
init_obeyed (project ∷ server ∷ fields) = project_by server fields (name_in project)

command_by : (first : Bool) (a b : Option Command) → Obeyed a → Obeyed b → Obeyed (cond first a b)
command_by true a b h k = h
command_by false a b h k = k

asked : (o : Option Question) → Obeyed (option_map command_of.Ask o)
asked None = tt
asked (Some question) = tt

shunned : (o : Option (List ℕ)) → Obeyed (option_map command_of.Shun o)
shunned None = tt
shunned (Some name) = tt

unshunned : (o : Option (List ℕ)) → Obeyed (option_map command_of.Unshun o)
unshunned None = tt
unshunned (Some name) = tt

exported : (o : Option (List ℕ)) → Obeyed (option_map command_of.Export o)
exported None = tt
exported (Some prefix) = tt

verified : (o : Option (List ℕ)) → Obeyed (option_map command_of.Verify o)
verified None = tt
verified (Some prefix) = tt

-- a word has a byte
some_byte : (word : List ℕ) → is_word word ≡ true → word ≡ [] → ⊥
some_byte [] is none = cc
some_byte (b ∷ word) is none = cc

checked_in : (user comment : List ℕ) → is_word user ≡ true → is_word comment ≡ true → (o : Option (Option (List ℕ))) → Obeyed (option_map (λ p. command_of.Checkin p user comment) o)
checked_in user comment u c None = tt
checked_in user comment u c (Some parent) = (some_byte user u, some_byte comment c)

checkin_obeyed : (words : List (List ℕ)) → list_all is_word words ≡ true → Obeyed (checkin_command words)
checkin_obeyed [] all = tt
checkin_obeyed (parent ∷ []) all = tt
checkin_obeyed (parent ∷ user ∷ []) all = tt
checkin_obeyed (parent ∷ user ∷ comment ∷ []) all =
    let behind = second_holds (is_word parent) (list_all is_word (user ∷ comment ∷ [])) all in
    checked_in user comment (first_holds (is_word user) (list_all is_word (comment ∷ [])) behind)
    (first_holds (is_word comment) true (second_holds (is_word user) (list_all is_word (comment ∷ [])) behind)) (parent_in parent)
checkin_obeyed (parent ∷ user ∷ comment ∷ other ∷ words) all = tt

-- a command of unversioned files
unversioned : {A : Type 0} (asks : A → Unversioned) (o : Option A) → IfSome o (λ x. IsUvObeyable (asks x)) → Obeyed (option_map (λ x. command_of.Unversioned (asks x)) o)
unversioned asks None fit = tt
unversioned asks (Some x) fit = fit

-- a word that is a path is one that an entry may have
fit_path : (word : List ℕ) (fit : Bool) → is_path word ≡ fit → IfSome (cond fit (Some word) None) (λ path. IsTrue (is_path path))
fit_path word false e = tt
fit_path word true e = e

path_fit : (word : List ℕ) → IfSome (path_in word) (λ path. IsTrue (is_path path))
path_fit word = fit_path word (is_path word) refl

any_path : (word : List ℕ) → IfSome (path_in word) (λ path. IsUvObeyable (uv.Cat path))
any_path word = some_cat (path_in word)
  where
    some_cat : (o : Option (List ℕ)) → IfSome o (λ path. IsUvObeyable (uv.Cat path))
    some_cat None = tt
    some_cat (Some path) = tt

any_server : (project : List ℕ) (o : Option (List ℕ)) → IfSome o (λ server. IsUvObeyable (uv.Init project server))
any_server project None = tt
any_server project (Some server) = fields_fit [] refl

uv_init_by : (server : List ℕ) (project : Option (List ℕ)) → Obeyed (option_and_then (λ p. option_map (λ s. command_of.Unversioned (uv.Init p s)) (name_in server)) project)
uv_init_by server None = tt
uv_init_by server (Some project) = unversioned (uv.Init project) (name_in server) (any_server project (name_in server))

uv_init_obeyed : (words : List (List ℕ)) → Obeyed (uv_init_command words)
uv_init_obeyed [] = tt
uv_init_obeyed (project ∷ []) = tt
uv_init_obeyed (project ∷ server ∷ []) = uv_init_by server (name_in project)
uv_init_obeyed (project ∷ server ∷ other ∷ words) = tt

other_obeyed : (command word : List ℕ) → Obeyed (other_command command word)
other_obeyed command word =
    command_by (bytes_eq command (codes "uv-add")) _ _ (unversioned uv.Add (path_in word) (path_fit word))
    (command_by (bytes_eq command (codes "uv-remove")) _ _ (unversioned uv.Remove (path_in word) (path_fit word))
    (command_by (bytes_eq command (codes "uv-cat")) _ _ (unversioned uv.Cat (path_in word) (any_path word)) (command_by (bytes_eq command (codes "uv-sync")) _ _ tt (asked (question_in command word)))))

tickets_obeyed : (fields : Option (List (List ℕ))) → Obeyed (option_map (λ fields. command_of.Ask (question_of.Tickets fields)) fields)
tickets_obeyed None = tt
tickets_obeyed (Some fields) = tt

plain_obeyed : (command : List ℕ) (words : List (List ℕ)) → Obeyed (plain_command command words)
plain_obeyed command [] =
    command_by (bytes_eq command (codes "ingest")) _ _ tt
    (command_by (bytes_eq command (codes "put")) _ _ tt (command_by (bytes_eq command (codes "uv-list")) _ _ tt (asked (bare_question command))))
plain_obeyed command (word ∷ []) = command_by (bytes_eq command (codes "shun")) _ _ (shunned (name_in word))
    (command_by (bytes_eq command (codes "unshun")) _ _ (unshunned (name_in word))
    (command_by (bytes_eq command (codes "pull-local")) _ _ tt (command_by (bytes_eq command (codes "export")) _ _ (exported (prefix_in word))
    (command_by (bytes_eq command (codes "verify")) _ _ (verified (prefix_in word)) (command_by (bytes_eq command (codes "scrub")) _ _ tt (other_obeyed command word))))))
plain_obeyed command (word ∷ other ∷ words) = tt

at_least : (n : ℕ) → nat_le 1 n ≡ true → 0 < n
at_least n e = grind (arith)

at_most : (n most : ℕ) → nat_le n most ≡ true → n ≤ most
at_most n most e = grind (arith)

-- a number that is read is within its bounds
number_by : (most : ℕ) (word : List ℕ) (fit : Bool) → is_up_to most word ≡ fit → IfSome (cond fit (Some (decimal_value word)) None) (λ n. (0 < n) × (n ≤ most))
number_by most word false e = tt
number_by most word true e =
    let parts = and_parts (is_decimal_text word && nat_le 1 (decimal_value word)) (nat_le (decimal_value word) most) e in
    let more = and_parts (is_decimal_text word) (nat_le 1 (decimal_value word)) parts.0 in
    (at_least (decimal_value word) more.1, at_most (decimal_value word) most parts.1)

requests_by : (address users : List ℕ) (workers : ℕ) (requests : Option ℕ) → (0 < workers) × (workers ≤ 16) → IfSome requests (λ n. (0 < n) × (n ≤ 65536)) → Obeyed (option_map (command_of.Serve address users workers) requests)
requests_by address users workers None w r = tt
requests_by address users workers (Some requests) w r = (w.0, w.1, r.1)

workers_by : (address users : List ℕ) (requests workers : Option ℕ) → IfSome workers (λ n. (0 < n) × (n ≤ 16)) → IfSome requests (λ n. (0 < n) × (n ≤ 65536))
    → Obeyed (option_and_then (λ w. option_map (command_of.Serve address users w) requests) workers)
workers_by address users requests None w r = tt
workers_by address users requests (Some workers) w r = requests_by address users workers requests w r

serve_obeyed : (words : List (List ℕ)) → Obeyed (serve_command words)
serve_obeyed [] = tt
serve_obeyed (address ∷ []) = tt
serve_obeyed (address ∷ users ∷ []) = tt
serve_obeyed (address ∷ users ∷ workers ∷ []) = tt
serve_obeyed (address ∷ users ∷ workers ∷ requests ∷ []) =
    workers_by address users (number_in 65536 requests) (number_in 16 workers) (number_by 16 workers (is_up_to 16 workers) refl) (number_by 65536 requests (is_up_to 65536 requests) refl)
serve_obeyed (address ∷ users ∷ workers ∷ requests ∷ other ∷ words) = tt

gen_by : (reversed : Bool) (count : Option ℕ) → IfSome count (λ n. (0 < n) × (n ≤ 100000)) → Obeyed (option_map (λ n. command_of.Gen n reversed) count)
gen_by reversed None h = tt
gen_by reversed (Some count) h = let least : 1 ≤ count = omega (arith, h.0) in (least, h.1)

gen_obeyed : (words : List (List ℕ)) → Obeyed (gen_command words)
gen_obeyed [] = tt
gen_obeyed (count ∷ []) = gen_by false (number_in 100000 count) (number_by 100000 count (is_up_to 100000 count) refl)
gen_obeyed (count ∷ order ∷ []) = command_by (bytes_eq order (codes "reversed")) _ _ (gen_by true (number_in 100000 count) (number_by 100000 count (is_up_to 100000 count) refl)) tt
gen_obeyed (count ∷ order ∷ other ∷ words) = tt

cloned_by : (address server : List ℕ) (fields : List (List ℕ)) (fit : Bool) → are_fields fields ≡ fit → Obeyed (option_map (command_of.Clone address server) (cond fit (Some fields) None))
cloned_by address server fields true e = fields_fit fields e
cloned_by address server fields false e = tt

coded_by : (address : List ℕ) (fields : List (List ℕ)) (server : Option (List ℕ)) → Obeyed (option_and_then (λ s. option_map (command_of.Clone address s) (fields_in fields)) server)
coded_by address fields None = tt
coded_by address fields (Some server) = cloned_by address server fields (are_fields fields) refl

clone_obeyed : (words : List (List ℕ)) → Obeyed (clone_command words)
clone_obeyed [] = tt
clone_obeyed (address ∷ []) = tt
clone_obeyed (address ∷ server ∷ fields) = coded_by address fields (name_in server)

-- an address and a login
abbrev Served : Type 0
Served = List ℕ × Option (List ℕ × List ℕ)

pull_by : (o : Option Served) → Obeyed (option_map (λ (s : Served). command_of.Pull s.0 s.1) o)
pull_by None = tt
pull_by (Some s) = tt

push_by : (o : Option Served) → Obeyed (option_map (λ (s : Served). command_of.Push s.0 s.1) o)
push_by None = tt
push_by (Some s) = tt

named_by : (repository : List ℕ) (o : Option Command) → Obeyed o → IfSome {T = Words} (option_map (λ c. record { repository = repository; command = c }) o) (λ w. IsObeyable w.command)
named_by repository None h = tt
named_by repository (Some command) h = h

parts_obeyed : (words : List (List ℕ)) → list_all is_word words ≡ true → IfSome (parts_in words) (λ w. IsObeyable w.command)
parts_obeyed [] all = tt
parts_obeyed (repository ∷ []) all = tt
parts_obeyed (repository ∷ command ∷ words) all =
    let behind = second_holds (is_word command) (list_all is_word words) (second_holds (is_word repository) (list_all is_word (command ∷ words)) all) in
    named_by repository (command_in command words)
    (command_by (bytes_eq command (codes "init")) _ _ (init_obeyed words) (command_by (bytes_eq command (codes "serve")) _ _ (serve_obeyed words) (command_by (bytes_eq command (codes "gen")) _ _ (gen_obeyed words) (command_by (bytes_eq command (codes "pull")) _ _ (pull_by (served_in words)) (command_by (bytes_eq command (codes "push")) _ _ (push_by (served_in words)) (command_by (bytes_eq command (codes "clone")) _ _ (clone_obeyed words) (command_by (bytes_eq command (codes "checkin")) _ _ (checkin_obeyed words behind) (command_by (bytes_eq command (codes "uv-init")) _ _ (uv_init_obeyed words) (command_by (bytes_eq command (codes "tickets")) _ _ (tickets_obeyed (fields_in words)) (plain_obeyed command words))))))))))

words_by : (words : List (List ℕ)) (fit : Bool) → list_all is_word words ≡ fit → IfSome (cond fit (parts_in words) None) (λ w. IsObeyable w.command)
words_by words true all = parts_obeyed words all
words_by words false all = tt

-- each command that words say can be obeyed
pub obeyable : (words : List (List ℕ)) (w : Words) → words_in words ≡ Some w → IsObeyable w.command
obeyable words w e = subst (λ (o : Option Words). IfSome o (λ w. IsObeyable w.command)) e (words_by words (list_all is_word words) refl)

-- ---- runs

-- a command that is read is said
pub said_is : (words : List (List ℕ)) (w : Words) → words_in words ≡ Some w → said words ≡ Some w.command
said_is words w e = ap (option_map (λ (x : Words). x.command)) e

pub none_said : (words : List (List ℕ)) → words_in words ≡ None → said words ≡ None
none_said words e = ap (option_map (λ (x : Words). x.command)) e
