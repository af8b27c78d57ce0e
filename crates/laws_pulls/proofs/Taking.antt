-- What the cards that a peer gives leave of the contents: its public artifacts come, and no others.
use Rattle.std.specs.Prelude.{◌≡◌, ℕ, Bool, true, false, not, cond, List, [], ◌∷◌, ◌++◌, map, filter_map, Option, Some, None, option_map, Result, Ok, Err, MatchResult}
use Rattle.std.proofs.Common.{refl, sym, ap, subst, ◌∙◌}
use Rattle.std.specs.List.{AllByRecursion, cons_option}
use Rattle.std.specs.Option.{option_map_or}
use Rattle.std.specs.FinMap as map_of
use Rattle.fsl_wire.specs.declared.WireCard.{WireCard}
use Rattle.fsl_blobs.specs.Fold.{Held, Contents}
use Rattle.fsl_repo.specs.declared.Arrival.{Arrival}
use Rattle.fsl_repo.specs.declared.ArriveFault.{ArriveFault}
use Rattle.fsl_repo.specs.Machine.{State, now, arrived}
use Rattle.fsl_pull.specs.Requests.{igot_card, file_card}
use Rattle.fsl_pull.specs.Arrivals.{Taken, Takes, stopped_by, arrival_fault}
use Rattle.fsl_pull.specs.Pushes.{public_bytes, public_file}
use Rattle.fsl_pull.specs.Locals.{local_reply, IsLocalReply}
use Rattle.fsl_pull.proofs.ReadLemmas.{same_read, held_of}
use Rattle.laws_pulls.specs.Shown.{Gains}
use Rattle.laws_pulls.proofs.Gaining.{blob, no_gain, gain_to, both_gain, arrival_gains}

abbrev File : Type 0
File = List ℕ × List ℕ

-- the file is a public artifact that is held there
abbrev pub IsFileOf : Contents → File → Type 0
IsFileOf there f = map_of.get there.held f.0 ≡ Some (blob f.1)

abbrev pub AreFilesOf : Contents → List File → Type 0
AreFilesOf there files = AllByRecursion (IsFileOf there) files

-- ---- the files that a peer has of some names

none_some : {P : Type 0} (b : List ℕ) → ◌≡◌ {A = Option (List ℕ)} None (Some b) → P
none_some b e = absurd (no b e)
  where
    no : (b : List ℕ) → ◌≡◌ {A = Option (List ℕ)} None (Some b) → ⊥
    no b e = cc

same_bytes : (a b : List ℕ) → ◌≡◌ {A = Option (List ℕ)} (Some a) (Some b) → a ≡ b
same_bytes a b e = cc

by_flag : (a : Held) (bytes : List ℕ) (b : Bool) → a.private ≡ b → cond b None (Some a.bytes) ≡ Some bytes → a ≡ blob bytes
by_flag a bytes true flag e = none_some bytes e
by_flag a bytes false flag e = let is = same_bytes a.bytes bytes e in λ i. record { private = flag i; bytes = is i }

by_held : (o : Option Held) (bytes : List ℕ) → option_map_or (λ a. cond a.private None (Some a.bytes)) o None ≡ Some bytes → o ≡ Some (blob bytes)
by_held None bytes e = none_some bytes e
by_held (Some a) bytes e = λ i. Some (by_flag a bytes a.private refl e i)

with_file : (there : Contents) (name : List ℕ) (o : Option (List ℕ)) (files : List File) → public_bytes there name ≡ o → AreFilesOf there files
    → AreFilesOf there (cons_option (option_map (λ bytes. (name, bytes)) o) files)
with_file there name None files e rest = rest
with_file there name (Some bytes) files e rest = (by_held (map_of.get there.held name) bytes e, rest)

pub public_files : (there : Contents) (names : List (List ℕ)) → AreFilesOf there (filter_map (public_file there) names)
public_files there [] = tt
public_files there (name ∷ names) = with_file there name (public_bytes there name) (filter_map (public_file there) names) refl (public_files there names)

-- ---- cards

past_igots : (names : List (List ℕ)) (rest : List WireCard) (s : State) (t : Taken) → Takes s None (map igot_card names ++ rest) t → Takes s None rest t
past_igots [] rest s t h = h
past_igots (name ∷ names) rest s t h = past_igots names rest s t h

abbrev FileTaken : State → File → List WireCard → Taken → Result Arrival ArriveFault → Type 0
FileTaken s f rest t answer =
    MatchResult answer (λ a. (more : Taken) × Takes (arrived s f.0 None f.1 false answer) None rest more × (t ≡ record more { arrivals = a ∷ more.arrivals }))
    (λ why. t ≡ stopped_by s (arrival_fault f.0 why))

by_answer : (there : Contents) (s : State) (f : File) (rest : List WireCard) (t : Taken) (answer : Result Arrival ArriveFault) → IsFileOf there f
    → ((s2 : State) (more : Taken) → Takes s2 None rest more → Gains (now s2) there (now more.state)) → FileTaken s f rest t answer → Gains (now s) there (now t.state)
by_answer there s f rest t (Ok a) given others h =
    gain_to (now s) there (now (h.0).state) (now t.state) (sym (ap (λ (x : Taken). now x.state) h.2))
    (both_gain there (now s) (now (arrived s f.0 None f.1 false (Ok a))) (now (h.0).state) (arrival_gains s there f.0 f.1 (Ok a) given)
    (others (arrived s f.0 None f.1 false (Ok a)) h.0 h.1))
by_answer there s f rest t (Err why) given others h = gain_to (now s) there (now s) (now t.state) (sym (ap (λ (x : Taken). now x.state) h)) (no_gain (now s) there)

files_gain : (there : Contents) (files : List File) → AreFilesOf there files → (s : State) (t : Taken) → Takes s None (map file_card files) t → Gains (now s) there (now t.state)
files_gain there [] given s t h = gain_to (now s) there (now s) (now t.state) (sym (ap (λ (x : Taken). now x.state) h)) (no_gain (now s) there)
files_gain there (f ∷ files) given s t h =
    by_answer there s f (map file_card files) t h.0 given.0 (λ s2 more k. files_gain there files given.1 s2 more k) h.2

-- a reply of a peer whose disk tells its contents and meets the disk model
pub reply_gains : (peer : State) (unclustered asked : List (List ℕ)) (reply : List WireCard) → peer.honest ≡ true → IsLocalReply peer unclustered asked reply
    → (s : State) (t : Taken) → Takes s None reply t → Gains (now s) (now peer) (now t.state)
reply_gains peer unclustered asked reply honest is s t h =
    let files : is.0 ≡ held_of peer asked = same_read peer.honest (held_of peer asked) is.0 honest is.1 in
    files_gain (now peer) is.0 (subst (AreFilesOf (now peer)) (sym files) (public_files (now peer) asked)) s t
    (past_igots unclustered (map file_card is.0) s t (subst (λ (cards : List WireCard). Takes s None cards t) is.2 h))
