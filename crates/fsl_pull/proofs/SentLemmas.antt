-- The names that a push has sent, and those that it chooses.
use Rattle.std.specs.Prelude.{◌≡◌, ℕ, zero, suc, ◌||◌, Bool, true, false, not, List, [], ◌∷◌, ◌++◌, length, take, map, filter, filter_map, cond, Option, Some, None, option_map, if◌then◌else◌}
use Rattle.std.specs.List.{cons_option}
use Rattle.std.specs.Option.{option_map_or}
use Rattle.std.specs.FinMap as map_of
use Rattle.std.specs.FinSet as set
use Rattle.std.specs.Cmp.Lexicographic.{texts_ties}
use Rattle.std.proofs.Common.{refl, sym, ap, ◌∙◌}
use Rattle.std.proofs.lemmas.List.{take-map}
use Rattle.std.proofs.lemmas.List.Folds.{list_any-append}
use Rattle.std.proofs.lemmas.Bool.{or_right}
use Rattle.fsl_order.specs.Names.{has}
use Rattle.fsl_answer.specs.Contents.{each_once}
use Rattle.fsl_answer.specs.Replies.{taken}
use Rattle.fsl_blobs.specs.Fold.{Held, Contents}
use Rattle.fsl_blobs.specs.Held.{state_of}
use Rattle.fsl_blobs.specs.Kept.{is_same, stands}
use Rattle.fsl_blobs.specs.declared.BlobState.TheVariants as blob
use Rattle.fsl_blobs.proofs.KeptLemmas.{turned}
use Rattle.fsl_pull.specs.Pushes.{Sending, public_bytes, public_file, due_files, files_to_send, names_of, is_public}
use Rattle.fsl_pull.specs.Sent.{public_size, IsWith}

abbrev Names : Type 0
Names = List (List ℕ)

abbrev Files : Type 0
Files = List (List ℕ × List ℕ)

pub has_stands : (names : Names) (q : List ℕ) → has names q ≡ stands names q
has_stands [] q = refl
has_stands (n ∷ names) q = λ i. texts_ties q n i || has_stands names q i

pub stands_both : (a b : Names) (q : List ℕ) → stands (a ++ b) q ≡ (stands a q || stands b q)
stands_both a b q = list_any-append (is_same q) a b

or_last : (a b : Bool) → (a || (b || false)) ≡ cond b true a
or_last true true = refl
or_last true false = refl
or_last false true = refl
or_last false false = refl

or_front : (a b c : Bool) → (cond a true b || c) ≡ cond a true (b || c)
or_front true b c = refl
or_front false b c = refl

-- one name more that was sent
pub same_more : (order keys more : Names) (name : List ℕ) → ((q : List ℕ) → has order q ≡ stands keys q) → ((q : List ℕ) → stands more q ≡ cond (is_same name q) true (stands keys q)) → (q : List ℕ) → has (order ++ name ∷ []) q ≡ stands more q
same_more order keys more name same now q =
    has_stands (order ++ name ∷ []) q ∙ stands_both order (name ∷ []) q
    ∙ (λ i. (sym (has_stands order q) ∙ same q) i || (turned q name i || false))
    ∙ or_last (stands keys q) (is_same name q) ∙ sym (now q)

-- a name that is seen behind those that were
pub with_more : (keys more order : Names) (name : List ℕ) → ((q : List ℕ) → stands more q ≡ cond (is_same name q) true (stands keys q)) → IsWith (more ++ order) name (keys ++ order)
with_more keys more order name now q =
    stands_both more order q ∙ ap (λ (b : Bool). b || stands order q) (now q) ∙ or_front (is_same name q) (stands keys q) (stands order q)
    ∙ ap (λ (b : Bool). cond (is_same name q) true b) (sym (stands_both keys order q))

or_false : (a b : Bool) → b ≡ false → (a || b) ≡ a
or_false true b e = refl
or_false false b e = e

-- a name that was sent isn't a first one, and another is where it wasn't seen
pub not_first : (keys order : Names) (name : List ℕ) → has order name ≡ true → false ≡ not (stands (keys ++ order) name)
not_first keys order name h = ap not (sym (stands_both keys order name ∙ or_right (stands keys name) (stands order name) (sym (has_stands order name) ∙ h)))

pub first_by : (keys order : Names) (name : List ℕ) (added : Bool) → has order name ≡ false → added ≡ not (stands keys name) → added ≡ not (stands (keys ++ order) name)
first_by keys order name added h is = is ∙ ap not (sym (stands_both keys order name ∙ or_false (stands keys name) (stands order name) (sym (has_stands order name) ∙ h)))

-- ---- which files are chosen

-- what a name is held as, and its file
size_by : (shunned : Bool) (name : List ℕ) (o : Option Held)
    → public_size (option_map_or (λ a. if a.private then blob.Private (length a.bytes) else blob.Public (length a.bytes)) o (if shunned then blob.Shunned else blob.Absent))
    ≡ option_map (λ (f : List ℕ × List ℕ). length f.1) (option_map (λ bytes. (name, bytes)) (option_map_or (λ a. if a.private then None else Some a.bytes) o None))
size_by true name None = refl
size_by false name None = refl
size_by shunned name (Some a) = by a.private
  where
    by : (b : Bool) → public_size (if b then blob.Private (length a.bytes) else blob.Public (length a.bytes)) ≡ option_map (λ (f : List ℕ × List ℕ). length f.1) (option_map (λ bytes. (name, bytes)) (if b then None else Some a.bytes))
    by true = refl
    by false = refl

pub size_is : (c : Contents) (name : List ℕ) → public_size (state_of c name) ≡ option_map (λ (f : List ℕ × List ℕ). length f.1) (public_file c name)
size_is c name = size_by (set.contains c.shunned name) name (map_of.get c.held name)

-- a file of a name that isn't held as public isn't there
abbrev file_by : List ℕ → Option Held → Option (List ℕ × List ℕ)
file_by name o = option_map (λ bytes. (name, bytes)) (option_map_or (λ a. if a.private then None else Some a.bytes) o None)

abbrev public_by : Option Held → Bool
public_by o = option_map_or (λ a. not a.private) o false

filtered_by : (name : List ℕ) (o : Option Held) (rest all : Names) (g : List ℕ → Option (List ℕ × List ℕ)) → g name ≡ file_by name o → filter_map g rest ≡ filter_map g all
    → filter_map g (cond (public_by o) (name ∷ rest) rest) ≡ cons_option (file_by name o) (filter_map g all)
filtered_by name None rest all g is same = same
filtered_by name (Some a) rest all g is same = by a.private is
  where
    by : (b : Bool) → g name ≡ option_map (λ bytes. (name, bytes)) (if b then None else Some a.bytes)
        → filter_map g (cond (not b) (name ∷ rest) rest) ≡ cons_option (option_map (λ bytes. (name, bytes)) (if b then None else Some a.bytes)) (filter_map g all)
    by true e = same
    by false e = λ i. cons_option (e i) (same i)

pub files_filtered : (c : Contents) (names : Names) → filter_map (public_file c) (filter (is_public c) names) ≡ filter_map (public_file c) names
files_filtered c [] = refl
files_filtered c (n ∷ names) = filtered_by n (map_of.get c.held n) (filter (is_public c) names) names (public_file c) refl (files_filtered c names)

names_by : (name : List ℕ) (o : Option Held) (files : Files) (rest : Names) → names_of files ≡ rest → names_of (cons_option (file_by name o) files) ≡ cond (public_by o) (name ∷ rest) rest
names_by name None files rest same = same
names_by name (Some a) files rest same = by a.private
  where
    by : (b : Bool) → names_of (cons_option (option_map (λ bytes. (name, bytes)) (if b then None else Some a.bytes)) files) ≡ cond (not b) (name ∷ rest) rest
    by true = same
    by false = λ i. name ∷ same i

pub names_filtered : (c : Contents) (names : Names) → names_of (filter_map (public_file c) names) ≡ filter (is_public c) names
names_filtered c [] = refl
names_filtered c (n ∷ names) = names_by n (map_of.get c.held n) (filter_map (public_file c) names) (filter (is_public c) names) (names_filtered c names)

sized : (c : Contents) (name : List ℕ) (o : Option (List ℕ × List ℕ)) (files : Files) (sizes : List ℕ) → sizes ≡ map (λ (f : List ℕ × List ℕ). length f.1) files
    → cons_option (option_map (λ (f : List ℕ × List ℕ). length f.1) o) sizes ≡ map (λ (f : List ℕ × List ℕ). length f.1) (cons_option o files)
sized c name None files sizes same = same
sized c name (Some f) files sizes same = λ i. length f.1 ∷ same i

pub sizes_are : (c : Contents) (names : Names) → filter_map (λ name. public_size (state_of c name)) names ≡ map (λ (f : List ℕ × List ℕ). length f.1) (filter_map (public_file c) names)
sizes_are c [] = refl
sizes_are c (n ∷ names) =
    ap (λ (o : Option ℕ). cons_option o (filter_map (λ name. public_size (state_of c name)) names)) (size_is c n)
    ∙ sized c n (public_file c n) (filter_map (public_file c) names) (filter_map (λ name. public_size (state_of c name)) names) (sizes_are c names)

-- the names that are due, by the code
pub due_is : (c : Contents) (m : Sending) (fresh names : Names) (sizes : List ℕ) → fresh ≡ each_once m.sent m.gimmes → names ≡ filter (is_public c) fresh
    → sizes ≡ filter_map (λ name. public_size (state_of c name)) names → take (taken sizes) names ≡ names_of (files_to_send c m)
due_is c m fresh names sizes is_fresh is_names is_sizes =
    let files = filter_map (public_file c) (each_once m.sent m.gimmes) in
    let same_names : names ≡ names_of files = is_names ∙ ap (filter (is_public c)) is_fresh ∙ sym (names_filtered c (each_once m.sent m.gimmes)) in
    let same_sizes : sizes ≡ map (λ (f : List ℕ × List ℕ). length f.1) files =
    is_sizes ∙ ap (filter_map (λ name. public_size (state_of c name))) (is_names ∙ ap (filter (is_public c)) is_fresh)
    ∙ sizes_are c (filter (is_public c) (each_once m.sent m.gimmes)) ∙ ap (map (λ (f : List ℕ × List ℕ). length f.1)) (files_filtered c (each_once m.sent m.gimmes)) in
    (λ i. take (taken (same_sizes i)) (same_names i)) ∙ take-map (λ (f : List ℕ × List ℕ). f.0) (taken (map (λ (f : List ℕ × List ℕ). length f.1) files)) files

-- each chosen file is that of its name
abbrev named_by : Contents → (List ℕ × List ℕ) → Type 0
named_by c f = public_file c f.0 ≡ Some f

abbrev AreTheirs : Contents → Files → Type 0
AreTheirs c [] = Unit {0}
AreTheirs c (f ∷ files) = named_by c f × AreTheirs c files

bytes_name : (name : List ℕ) (o : Option (List ℕ)) (f : List ℕ × List ℕ) → option_map (λ bytes. (name, bytes)) o ≡ Some f → f.0 ≡ name
bytes_name name None f e = absurd (none_some f e)
  where
    none_some : (f : List ℕ × List ℕ) → option_map (λ (bytes : List ℕ). (name, bytes)) None ≡ Some f → ⊥
    none_some f e = cc
bytes_name name (Some b) f e = ap (λ (g : List ℕ × List ℕ). g.0) (sym (some_is (name, b) f e))
  where
    some_is : (a b : List ℕ × List ℕ) → Some a ≡ Some b → a ≡ b
    some_is a b e = cc

theirs_by : (c : Contents) (name : List ℕ) (o : Option (List ℕ × List ℕ)) (files : Files) → public_file c name ≡ o → AreTheirs c files → AreTheirs c (cons_option o files)
theirs_by c name None files is h = h
theirs_by c name (Some f) files is h = (ap (public_file c) (bytes_name name (public_bytes c name) f is) ∙ is, h)

theirs : (c : Contents) (names : Names) → AreTheirs c (filter_map (public_file c) names)
theirs c [] = tt
theirs c (n ∷ names) = theirs_by c n (public_file c n) (filter_map (public_file c) names) refl (theirs c names)

theirs_again : (c : Contents) (k : ℕ) (files : Files) → AreTheirs c files → filter_map (public_file c) (names_of (take k files)) ≡ take k files
theirs_again c zero files h = refl
theirs_again c (suc k) [] h = refl
theirs_again c (suc k) (f ∷ files) h = λ i. cons_option (h.0 i) (theirs_again c k files h.1 i)

pub files_again : (c : Contents) (m : Sending) → filter_map (public_file c) (names_of (files_to_send c m)) ≡ files_to_send c m
files_again c m = theirs_again c (taken (map (λ (f : List ℕ × List ℕ). length f.1) (due_files c m))) (due_files c m) (theirs c (each_once m.sent m.gimmes))
