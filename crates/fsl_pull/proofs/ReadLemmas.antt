-- Files as they are read.
use Rattle.std.specs.Prelude.{◌≡◌, ℕ, ◌+◌, ◌<◌, Bool, true, List, [], ◌∷◌, ◌++◌, length, take, drop, get_or, filter_map}
use Rattle.std.proofs.Common.{refl, sym, ap, subst, ◌∙◌}
use Rattle.std.proofs.lemmas.List.{take_more, take-append-drop}
use Rattle.std.proofs.lemmas.List.Elements.{filter_map-append}
use Rattle.fsl_repo.proofs.Loops.{rest_is}
use Rattle.fsl_repo.specs.Machine.{State, now}
use Rattle.fsl_pull.specs.Reading.{AreReadAs}
use Rattle.fsl_pull.specs.Pushes.{public_file, names_of, AreRead}

abbrev Names : Type 0
Names = List (List ℕ)

abbrev Files : Type 0
Files = List (List ℕ × List ℕ)

-- they may be read as they are
abbrev pub as_they_are : (honest : Bool) (files : Files) → AreReadAs honest files files
as_they_are honest [] = tt
as_they_are honest (f ∷ files) = (record { alike = refl; named = refl; sized = refl; same = λ is. refl }, as_they_are honest files)

-- their names are the same
pub names_read : (honest : Bool) (files read : Files) → AreReadAs honest files read → names_of read ≡ names_of files
names_read honest [] [] h = refl
names_read honest [] (r ∷ read) h = absurd h
names_read honest (f ∷ files) [] h = absurd h
names_read honest (f ∷ files) (r ∷ read) h = λ i. (h.0).alike i ∷ names_read honest files read h.1 i

-- over a disk that tells its contents and meets the disk model they are the same
pub same_read : (honest : Bool) (files read : Files) → honest ≡ true → AreReadAs honest files read → read ≡ files
same_read honest [] [] is h = refl
same_read honest [] (r ∷ read) is h = absurd h
same_read honest (f ∷ files) [] is h = absurd h
same_read honest (f ∷ files) (r ∷ read) is h = λ i. ((h.0).alike i, (h.0).same is i) ∷ same_read honest files read is h.1 i

both_read : (honest : Bool) (xs ys us bs : Files) → AreReadAs honest xs us → AreReadAs honest ys bs → AreReadAs honest (xs ++ ys) (us ++ bs)
both_read honest [] ys [] bs h k = k
both_read honest [] ys (u ∷ us) bs h k = absurd h
both_read honest (x ∷ xs) ys [] bs h k = absurd h
both_read honest (x ∷ xs) ys (u ∷ us) bs h k = (h.0, both_read honest xs ys us bs h.1 k)

-- some names, and some more
pub more_read : (s : State) (xs ys : Names) (us bs : Files) → AreRead s xs us → AreRead s ys bs → AreRead s (xs ++ ys) (us ++ bs)
more_read s xs ys us bs h k =
    subst (λ (fs : Files). AreReadAs s.honest fs (us ++ bs)) (sym (filter_map-append (public_file (now s)) xs ys))
    (both_read s.honest (filter_map (public_file (now s)) xs) (filter_map (public_file (now s)) ys) us bs h k)

-- the held ones of some names
abbrev pub held_of : State → Names → Files
held_of s names = filter_map (public_file (now s)) names

pub held_read : (s : State) (names : Names) → AreRead s names (held_of s names)
held_read s names = as_they_are s.honest (held_of s names)

-- names one after another
pub around_name : (all : List (List ℕ)) (i : ℕ) (name : List ℕ) → i < length all → name ≡ get_or all i name → all ≡ take i all ++ name ∷ drop (i + 1) all
around_name all i name lt is = sym (take-append-drop i all) ∙ ap (λ (ns : List (List ℕ)). take i all ++ ns) (rest_is all i name lt is)

pub name_on : (all : List (List ℕ)) (i : ℕ) (name : List ℕ) → i < length all → name ≡ get_or all i name → take (i + 1) all ≡ take i all ++ name ∷ []
name_on all i name lt is = take_more all i name lt ∙ ap (λ (n : List ℕ). take i all ++ n ∷ []) (sym is)
