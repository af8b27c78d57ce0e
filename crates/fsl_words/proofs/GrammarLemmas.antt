-- Lists of words that are too short or too long for a command.
use Rattle.std.proofs.Common.{◌≡◌, ℕ, ◌<◌, ◌≤◌, Bool, true, false, List, [], ◌∷◌, length, map, take, get_or, None, refl, sym, ap, ◌∙◌, arith, ◌+◌, ◌&&◌}
use Rattle.std.specs.List.{list_all}
use Rattle.std.proofs.lemmas.List.{length-map}
use Rattle.std.proofs.lemmas.List.Folds.{list_all-map, list_all_at, list_all_more}
use Rattle.fsl_words.specs.Grammar.{init_command, uv_init_command, clone_command, served_in, plain_command, parts_in}

short_init : (words : List (List ℕ)) → length words < 2 → init_command words ≡ None
short_init [] short = refl
short_init (project ∷ []) short = refl
short_init (project ∷ server ∷ fields) short = absurd (omega arith)

-- `init` without two codes
pub no_codes : {A : Type 0} (f : A → List ℕ) (words : List A) → length words < 2 → init_command (map f words) ≡ None
no_codes f words short = short_init (map f words) (simp length-map short)

other_codes : (words : List (List ℕ)) → (length words ≡ 2 → ⊥) → uv_init_command words ≡ None
other_codes [] other = refl
other_codes (project ∷ []) other = refl
other_codes (project ∷ server ∷ []) other = absurd (other refl)
other_codes (project ∷ server ∷ more ∷ words) other = refl

-- `uv-init` with other words than two codes
pub no_two_codes : {A : Type 0} (f : A → List ℕ) (words : List A) → (length words ≡ 2 → ⊥) → uv_init_command (map f words) ≡ None
no_two_codes f words other = other_codes (map f words) (simp length-map other)

short_clone : (words : List (List ℕ)) → length words < 2 → clone_command words ≡ None
short_clone [] short = refl
short_clone (address ∷ []) short = refl
short_clone (address ∷ server ∷ fields) short = absurd (omega arith)

-- `clone` without an address or a server code
pub no_server : {A : Type 0} (f : A → List ℕ) (words : List A) → length words < 2 → clone_command (map f words) ≡ None
no_server f words short = short_clone (map f words) (simp length-map short)

short_served : (words : List (List ℕ)) → length words < 1 → served_in words ≡ None
short_served [] short = refl
short_served (address ∷ words) short = absurd (omega arith)

-- no address
pub no_address : {A : Type 0} (f : A → List ℕ) (words : List A) → length words < 1 → served_in (map f words) ≡ None
no_address f words short = short_served (map f words) (simp length-map short)

long_plain : (command : List ℕ) (words : List (List ℕ)) → 2 ≤ length words → plain_command command words ≡ None
long_plain command [] long = absurd (omega arith)
long_plain command (word ∷ []) long = absurd (omega arith)
long_plain command (word ∷ more ∷ words) long = refl

-- another command with two words or more
pub more_words : {A : Type 0} (f : A → List ℕ) (command : List ℕ) (words : List A) → 2 ≤ length words → plain_command command (map f words) ≡ None
more_words f command words long = long_plain command (map f words) (simp length-map long)

short_parts : (words : List (List ℕ)) → length words < 2 → parts_in words ≡ None
short_parts [] short = refl
short_parts (repository ∷ []) short = refl
short_parts (repository ∷ command ∷ words) short = absurd (omega arith)

-- no command
pub no_command : {A : Type 0} (f : A → List ℕ) (words : List A) → length words < 2 → parts_in (map f words) ≡ None
no_command f words short = short_parts (map f words) (simp length-map short)

-- one word more that is as it should be, and one that isn't
pub each_more : {A : Type 0} (p : List ℕ → Bool) (f : A → List ℕ) (words : List A) (i : ℕ) (word : A) → i < length words → p (f (get_or words i word)) ≡ true → list_all p (map f (take i words)) ≡ true
    → list_all p (map f (take (i + 1) words)) ≡ true
each_more p f words i word lt is before =
    list_all-map p f (take (i + 1) words) ∙ list_all_more (λ w. p (f w)) words i word lt
    ∙ ap (λ (b : Bool). b && p (f (get_or words i word))) (sym (list_all-map p f (take i words)) ∙ before) ∙ is

pub each_not : {A : Type 0} (p : List ℕ → Bool) (f : A → List ℕ) (words : List A) (i : ℕ) (word : A) → i < length words → p (f (get_or words i word)) ≡ false → list_all p (map f words) ≡ false
each_not p f words i word lt is = list_all-map p f words ∙ list_all_at (λ w. p (f w)) words i word lt is
