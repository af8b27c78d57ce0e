-- Commands whose words were read one after the other.
use Rattle.std.proofs.Common.{◌≡◌, ℕ, ◌≤◌, List, [], ◌∷◌, length, map, drop, get_or, Option, Some, None, Result, Ok, Err, refl, sym, ap, subst, ◌∙◌, arith}
use Rattle.std.specs.Prelude.{IsErrAnd, option_and_then, option_map}
use Rattle.fsl_name.specs.Name.{name_in}
use Rattle.fsl_words.specs.declared.Command.{Command}
use Rattle.fsl_words.specs.declared.Command.TheVariants.{Init, Clone}
use Rattle.fsl_words.specs.declared.WordsFault.{WordsFault}
use Rattle.fsl_words.specs.declared.WordsFault.TheVariants.{Usage, Memory}
use Rattle.fsl_words.specs.Grammar.{init_command, clone_command, fields_in}
use Rattle.fsl_words.specs.Answers.{IsAnswer}

-- a fault that is handed on: where a part has no value, the whole has none
pub handed : {X Y : Type 0} (part : Option X) (whole : Option Y) (fault : WordsFault) (r : Result Y WordsFault) → IsErrAnd r (λ e. e ≡ fault) → (part ≡ None → whole ≡ None) → IsAnswer part (Err fault)
    → IsAnswer whole r
handed part whole fault (Ok y) is none given = absurd is
handed part whole Usage (Err e) is none given = subst (λ (k : WordsFault). IsAnswer whole (Err k)) (sym is) (none given)
handed part whole Memory (Err e) is none given = subst (λ (k : WordsFault). IsAnswer whole (Err k)) (sym is) tt

-- want of memory has no cause
pub no_memory : {Y : Type 0} (whole : Option Y) (r : Result Y WordsFault) → IsErrAnd r (λ e. e ≡ Memory) → IsAnswer whole r
no_memory whole (Ok y) is = absurd is
no_memory whole (Err e) is = subst (λ (k : WordsFault). IsAnswer whole (Err k)) (sym is) tt

two_words : {A : Type 0} (words : List A) (a b : A) → 2 ≤ length words → a ≡ get_or words 0 a → b ≡ get_or words 1 b → words ≡ a ∷ b ∷ drop 2 words
two_words [] a b long x y = absurd (omega arith)
two_words (w ∷ []) a b long x y = absurd (omega arith)
two_words {A = A} (w ∷ v ∷ words) a b long x y = ap (λ (c : A). c ∷ v ∷ words) (sym x) ∙ ap (λ (d : A). a ∷ d ∷ words) (sym y)

-- ---- init

abbrev init_of : Option (List ℕ) → Option (List ℕ) → Option (List (List ℕ)) → Option Command
init_of project server fields = option_and_then (λ p. option_and_then (λ s. option_map (Init p s) fields) server) project

no_second : (project : Option (List ℕ)) (fields : Option (List (List ℕ))) → init_of project None fields ≡ None
no_second None fields = refl
no_second (Some p) fields = refl

no_third : (project server : Option (List ℕ)) → init_of project server None ≡ None
no_third None server = refl
no_third (Some p) None = refl
no_third (Some p) (Some s) = refl

init_at : {A : Type 0} (f : A → List ℕ) (words : List A) (a b : A) → 2 ≤ length words → a ≡ get_or words 0 a → b ≡ get_or words 1 b
    → init_command (map f words) ≡ init_of (name_in (f a)) (name_in (f b)) (fields_in (map f (drop 2 words)))
init_at {A = A} f words a b long x y = ap (λ (ws : List A). init_command (map f ws)) (two_words words a b long x y)

pub no_project : {A : Type 0} (f : A → List ℕ) (words : List A) (a b : A) (project : List ℕ) → 2 ≤ length words → a ≡ get_or words 0 a → b ≡ get_or words 1 b
    → project ≡ f a → name_in project ≡ None → init_command (map f words) ≡ None
no_project f words a b project long x y is none =
    init_at f words a b long x y
    ∙ ap (λ (o : Option (List ℕ)). init_of o (name_in (f b)) (fields_in (map f (drop 2 words)))) (ap name_in (sym is) ∙ none)

pub no_code : {A : Type 0} (f : A → List ℕ) (words : List A) (a b : A) (server : List ℕ) → 2 ≤ length words → a ≡ get_or words 0 a → b ≡ get_or words 1 b
    → server ≡ f b → name_in server ≡ None → init_command (map f words) ≡ None
no_code f words a b server long x y is none =
    init_at f words a b long x y
    ∙ ap (λ (o : Option (List ℕ)). init_of (name_in (f a)) o (fields_in (map f (drop 2 words)))) (ap name_in (sym is) ∙ none)
    ∙ no_second (name_in (f a)) (fields_in (map f (drop 2 words)))

pub no_init_fields : {A : Type 0} (f : A → List ℕ) (words rest : List A) (a b : A) → 2 ≤ length words → a ≡ get_or words 0 a → b ≡ get_or words 1 b
    → rest ≡ drop 2 words → fields_in (map f rest) ≡ None → init_command (map f words) ≡ None
no_init_fields {A = A} f words rest a b long x y is none =
    init_at f words a b long x y
    ∙ ap (λ (o : Option (List (List ℕ))). init_of (name_in (f a)) (name_in (f b)) o) (ap (λ (ws : List A). fields_in (map f ws)) (sym is) ∙ none)
    ∙ no_third (name_in (f a)) (name_in (f b))

pub whole_init : {A : Type 0} (f : A → List ℕ) (words rest : List A) (a b : A) (project server p s : List ℕ) (fields : List (List ℕ)) → 2 ≤ length words → a ≡ get_or words 0 a → b ≡ get_or words 1 b
    → project ≡ f a → server ≡ f b → rest ≡ drop 2 words → name_in project ≡ Some p → name_in server ≡ Some s → fields_in (map f rest) ≡ Some fields
    → init_command (map f words) ≡ Some (Init p s fields)
whole_init {A = A} f words rest a b project server p s fields long x y at_a at_b is first second third =
    init_at f words a b long x y
    ∙ ap (λ (o : Option (List ℕ)). init_of o (name_in (f b)) (fields_in (map f (drop 2 words)))) (ap name_in (sym at_a) ∙ first)
    ∙ ap (λ (o : Option (List ℕ)). init_of (Some p) o (fields_in (map f (drop 2 words)))) (ap name_in (sym at_b) ∙ second)
    ∙ ap (λ (o : Option (List (List ℕ))). init_of (Some p) (Some s) o) (ap (λ (ws : List A). fields_in (map f ws)) (sym is) ∙ third)

-- ---- clone

abbrev clone_of : List ℕ → Option (List ℕ) → Option (List (List ℕ)) → Option Command
clone_of address server fields = option_and_then (λ s. option_map (Clone address s) fields) server

clone_at : {A : Type 0} (f : A → List ℕ) (words : List A) (a b : A) → 2 ≤ length words → a ≡ get_or words 0 a → b ≡ get_or words 1 b
    → clone_command (map f words) ≡ clone_of (f a) (name_in (f b)) (fields_in (map f (drop 2 words)))
clone_at {A = A} f words a b long x y = ap (λ (ws : List A). clone_command (map f ws)) (two_words words a b long x y)

no_clone_second : (address : List ℕ) (server : Option (List ℕ)) → clone_of address server None ≡ None
no_clone_second address None = refl
no_clone_second address (Some s) = refl

pub no_clone_code : {A : Type 0} (f : A → List ℕ) (words : List A) (a b : A) (server : List ℕ) → 2 ≤ length words → a ≡ get_or words 0 a → b ≡ get_or words 1 b
    → server ≡ f b → name_in server ≡ None → clone_command (map f words) ≡ None
no_clone_code f words a b server long x y is none =
    clone_at f words a b long x y ∙ ap (λ (o : Option (List ℕ)). clone_of (f a) o (fields_in (map f (drop 2 words)))) (ap name_in (sym is) ∙ none)

pub no_clone_fields : {A : Type 0} (f : A → List ℕ) (words rest : List A) (a b : A) → 2 ≤ length words → a ≡ get_or words 0 a → b ≡ get_or words 1 b
    → rest ≡ drop 2 words → fields_in (map f rest) ≡ None → clone_command (map f words) ≡ None
no_clone_fields {A = A} f words rest a b long x y is none =
    clone_at f words a b long x y
    ∙ ap (λ (o : Option (List (List ℕ))). clone_of (f a) (name_in (f b)) o) (ap (λ (ws : List A). fields_in (map f ws)) (sym is) ∙ none)
    ∙ no_clone_second (f a) (name_in (f b))

pub whole_clone : {A : Type 0} (f : A → List ℕ) (words rest : List A) (a b : A) (address server s : List ℕ) (fields : List (List ℕ)) → 2 ≤ length words → a ≡ get_or words 0 a → b ≡ get_or words 1 b
    → address ≡ f a → server ≡ f b → rest ≡ drop 2 words → name_in server ≡ Some s → fields_in (map f rest) ≡ Some fields
    → clone_command (map f words) ≡ Some (Clone address s fields)
whole_clone {A = A} f words rest a b address server s fields long x y at_a at_b is first second =
    clone_at f words a b long x y
    ∙ ap (λ (o : Option (List ℕ)). clone_of (f a) o (fields_in (map f (drop 2 words)))) (ap name_in (sym at_b) ∙ first)
    ∙ ap (λ (o : Option (List (List ℕ))). clone_of (f a) (Some s) o) (ap (λ (ws : List A). fields_in (map f ws)) (sym is) ∙ second)
    ∙ ap (λ (t : List ℕ). Some (Clone t s fields)) (sym at_a)
