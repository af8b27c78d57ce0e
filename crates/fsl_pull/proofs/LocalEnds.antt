-- A pull from another repository has its end: each round but the first and the last stores or publishes an artifact of the peer.
use Rattle.std.specs.Prelude.{◌≡◌, ℕ, zero, suc, ◌+◌, ◌-◌, ◌<◌, ◌≤◌, ◌^◌, ◌||◌, ◌&&◌, nat_lt, Bool, true, false, not, cond, List, [], ◌∷◌, ◌++◌, length, map, filter, filter_map, Option, Some, None, option_map, is_some, Result, Ok, Err, MatchBool, MatchOption, MatchResult, if◌then◌else◌}
use Rattle.std.proofs.Common.{refl, sym, ap, subst, ◌∙◌, inl, inr, arith}
use Rattle.std.specs.List.{list_all, list_any, cons_option}
use Rattle.std.specs.Option.{option_map_or}
use Rattle.std.specs.Ordering.{eq_by_cmp}
use Rattle.std.specs.Str.{bytes_eq}
use Rattle.std.specs.FinMap as map_of
use Rattle.std.specs.FinSet as set
use Rattle.std.proofs.lemmas.Cmp.{eq_by_cmp_equiv}
use Rattle.std.proofs.lemmas.List.Sums.{fold-append}
use Rattle.std.specs.Cmp.Lexicographic.{bytes_decides, texts_ties}
use Rattle.std.proofs.lemmas.Bool.{or_right}
use Rattle.fsl_order.specs.Names.{bytes_cmp, has}
use Rattle.fsl_order.proofs.Orders.{bytes_cmp-IsTotalOrder}
use Rattle.fsl_name.specs.Name.{name_of}
use Rattle.fsl_record.specs.declared.Record.{Record}
use Rattle.fsl_record.specs.declared.Record.TheVariants as record_of
use Rattle.fsl_wire.specs.declared.WireCard.{WireCard}
use Rattle.fsl_wire.specs.declared.WireCard.TheVariants as cards
use Rattle.fsl_blobs.specs.Fold.{Held, Contents, contents, nothing, after, is_new}
use Rattle.fsl_repo.specs.declared.Arrival.{Arrival}
use Rattle.fsl_repo.specs.declared.Arrival.TheVariants as arrival
use Rattle.fsl_repo.specs.declared.ArriveFault.{ArriveFault}
use Rattle.fsl_repo.specs.declared.ArriveFault.TheVariants as arrive_fault
use Rattle.fsl_repo.specs.Machine.{State, now, again, IsRoom, IsArrivalOf, IsArrival, arrived}
use Rattle.fsl_repo.proofs.SomeArrival.{some_items}
use Rattle.fsl_pull.specs.declared.PullFault.{PullFault}
use Rattle.fsl_pull.specs.Rounds.{Round, Point, End, Then, goes_on, ends, EndsIn}
use Rattle.fsl_pull.specs.Requests.{igot_card, file_card}
use Rattle.fsl_pull.specs.Replies.{announced_in, files_in}
use Rattle.fsl_pull.specs.Arrivals.{Taken, Takes, AreWants, has_moved, any_moved, stopped_by, arrival_fault}
use Rattle.fsl_pull.specs.Pulls.{next_names, is_end, behind, ended, uncommitted, stopped_end, pull_start}
use Rattle.fsl_pull.specs.Pushes.{public_bytes, public_file, names_of, is_public}
use Rattle.fsl_pull.specs.Locals.{local_reply, IsLocalReply, local_then, LocalRound, AreLocalRounds, project_code, other_project_end}
use Rattle.fsl_pull.specs.Laws.{LocalPullsEnd}
use Rattle.fsl_pull.proofs.ReadLemmas.{names_read, held_of}
use Rattle.fsl_pull.proofs.EndsWell.{one_wants}
use Rattle.fsl_pull.proofs.SomeEnd.{local_step, some_read, wants_for, unclustered_for}

no : {P : Type 0} → false ≡ true → P
no e = absurd cc

-- ---- names that can't be stored or published any more

-- held public, or shunned
abbrev closed : Contents → List ℕ → Bool
closed c n = is_public c n || set.contains c.shunned n

abbrev IsClosed : Contents → List ℕ → Type 0
IsClosed c n = closed c n ≡ true

abbrev public_in : Option Held → Bool
public_in o = option_map_or (λ a. not a.private) o false

over : (t : Bool) (v : Held) (o : Option Held) (s : Bool) → not v.private ≡ true → (public_in o || s) ≡ true → (public_in (cond t (Some v) o) || s) ≡ true
over true v o s public h = ap (λ (b : Bool). b || s) public
over false v o s public h = h

inserted : (c : Contents) (name : List ℕ) (v : Held) (n : List ℕ) → not v.private ≡ true → IsClosed c n → IsClosed (record c { held = map_of.insert c.held name v }) n
inserted c name v n public h =
    ap (λ (o : Option Held). public_in o || set.contains c.shunned n) (map_of.get-insert bytes_cmp-IsTotalOrder c.held name v n)
    ∙ over (eq_by_cmp bytes_cmp n name) v (map_of.get c.held n) (set.contains c.shunned n) public h

itself : (c : Contents) (name : List ℕ) (v : Held) → not v.private ≡ true → IsClosed (record c { held = map_of.insert c.held name v }) name
itself c name v public =
    ap (λ (o : Option Held). public_in o || set.contains c.shunned name) (map_of.get-insert bytes_cmp-IsTotalOrder c.held name v name)
    ∙ ap (λ (t : Bool). public_in (cond t (Some v) (map_of.get c.held name)) || set.contains c.shunned name) ((eq_by_cmp_equiv bytes_cmp-IsTotalOrder).refl name)
    ∙ ap (λ (b : Bool). b || set.contains c.shunned name) public

abbrev blob : List ℕ → Held
blob bytes = record { private = false; bytes = bytes }

with_blob : (c : Contents) (name bytes n : List ℕ) → IsClosed c n → IsClosed (after c (record_of.Blob false name None bytes)) n
with_blob c name bytes n h =
    elim (is_new c name) as (λ b. IsClosed (cond b (record c { held = map_of.insert c.held name (blob bytes) }) c) n) [
      | true ↦ inserted c name (blob bytes) n refl h
      | false ↦ h
    ]

own_blob : (c : Contents) (name bytes : List ℕ) → is_new c name ≡ true → IsClosed (after c (record_of.Blob false name None bytes)) name
own_blob c name bytes new =
    subst (λ (b : Bool). IsClosed (cond b (record c { held = map_of.insert c.held name (blob bytes) }) c) name) (sym new) (itself c name (blob bytes) refl)

abbrev made_public : Contents → List ℕ → Option Held → Contents
made_public c name o = option_map_or (λ a. record c { held = map_of.insert c.held name (record a { private = false }) }) o c

with_publish_by : (c : Contents) (name n : List ℕ) (o : Option Held) → IsClosed c n → IsClosed (made_public c name o) n
with_publish_by c name n None h = h
with_publish_by c name n (Some a) h = inserted c name (record a { private = false }) n refl h

own_publish : (c : Contents) (name : List ℕ) (a : Held) → map_of.get c.held name ≡ Some a → IsClosed (after c (record_of.Publish name)) name
own_publish c name a e = subst (λ (o : Option Held). IsClosed (made_public c name o) name) (sym e) (itself c name (record a { private = false }) refl)

pub one_more : (records : List Record) (r : Record) → contents (records ++ r ∷ []) ≡ after (contents records) r
one_more records r = fold-append after nothing records (r ∷ [])

abbrev pub Told : Type 0
Told = Result Arrival ArriveFault

stays : (s : State) (name bytes n : List ℕ) (answer : Told) → IsClosed (now s) n → IsClosed (now (arrived s name None bytes false answer)) n
stays s name bytes n (Ok arrival.Published) h =
    subst (λ (c : Contents). IsClosed c n) (sym (one_more s.records (record_of.Publish name))) (with_publish_by (now s) name n (map_of.get (now s).held name) h)
stays s name bytes n (Ok arrival.Stored) h = subst (λ (c : Contents). IsClosed c n) (sym (one_more s.records (record_of.Blob false name None bytes))) (with_blob (now s) name bytes n h)
stays s name bytes n (Ok arrival.Shunned) h = h
stays s name bytes n (Ok arrival.Present) h = h
stays s name bytes n (Err e) h = h

-- ---- what an arrival that moved did

abbrev pub ok : Arrival → Told
ok a = Ok a

pub ok_is : (a b : Arrival) → ok a ≡ Ok b → a ≡ b
ok_is a b e = cc

no_fault : (a : Arrival) (e : ArriveFault) → ok a ≡ Err e → ⊥
no_fault a e h = cc

stored_only : (t : Bool) (a : Arrival) (e : ArriveFault) → ok a ≡ (if t then Err e else Ok arrival.Stored) → a ≡ arrival.Stored
stored_only true a e h = absurd (no_fault a e h)
stored_only false a e h = ok_is a arrival.Stored h

pub by_room : (c : Contents) (a : Arrival) → IsRoom c (Ok a) → a ≡ arrival.Stored
by_room c a (items, are, e) = stored_only _ a _ e

-- the name was open, and is closed now
abbrev Closes : State → State → List ℕ → Type 0
Closes s t n = (closed (now s) n ≡ false) × (closed (now t) n ≡ true)

was_open : (o : Option Held) (sh : Bool) → public_in o ≡ false → sh ≡ false → (public_in o || sh) ≡ false
was_open o sh e f = ap (λ (b : Bool). b || sh) e ∙ f

moved_of : (s : State) (name bytes : List ℕ) (a : Arrival) → has_moved a ≡ true → IsArrivalOf (now s) name bytes false (Ok a) → Closes s (arrived s name None bytes false (Ok a)) name
moved_of s name bytes a moved h = by_shun (set.contains (now s).shunned name) refl h
  where
    not_moved : (b : Arrival) → a ≡ b → has_moved b ≡ false → Closes s (arrived s name None bytes false (Ok a)) name
    not_moved b e f = no (sym f ∙ ap has_moved (sym e) ∙ moved)

    when_stored : set.contains (now s).shunned name ≡ false → map_of.get (now s).held name ≡ None → a ≡ arrival.Stored → Closes s (arrived s name None bytes false (Ok a)) name
    when_stored sh none e =
        let new : is_new (now s) name ≡ true = ap (λ (o : Option Held). not (is_some o || set.contains (now s).shunned name)) none ∙ ap not sh in (
          was_open (map_of.get (now s).held name) (set.contains (now s).shunned name) (ap public_in none) sh,
          subst (λ (x : Arrival). IsClosed (now (arrived s name None bytes false (Ok x))) name) (sym e)
              (subst (λ (c : Contents). IsClosed c name) (sym (one_more s.records (record_of.Blob false name None bytes))) (own_blob (now s) name bytes new)),
        )

    when_again : set.contains (now s).shunned name ≡ false → (held : Held) → map_of.get (now s).held name ≡ Some held → (p : Bool) → held.private ≡ p → a ≡ again held false → Closes s (arrived s name None bytes false (Ok a)) name
    when_again sh held some false e f = not_moved (again held false) f (ap (λ (b : Bool). has_moved (if not b || false then arrival.Present else arrival.Published)) e)
    when_again sh held some true e f =
        let is : a ≡ arrival.Published = f ∙ ap (λ (b : Bool). if not b || false then arrival.Present else arrival.Published) e in (
          was_open (map_of.get (now s).held name) (set.contains (now s).shunned name) (ap public_in some ∙ ap not e) sh,
          subst (λ (x : Arrival). IsClosed (now (arrived s name None bytes false (Ok x))) name) (sym is)
              (subst (λ (c : Contents). IsClosed c name) (sym (one_more s.records (record_of.Publish name))) (own_publish (now s) name held some)),
        )

    by_held : set.contains (now s).shunned name ≡ false → (o : Option Held) → map_of.get (now s).held name ≡ o
        → MatchOption o (IsRoom (after (now s) (record_of.Blob false name None bytes)) (Ok a)) (λ held. ok a ≡ Ok (again held false)) → Closes s (arrived s name None bytes false (Ok a)) name
    by_held sh None e k = when_stored sh e (by_room (after (now s) (record_of.Blob false name None bytes)) a k)
    by_held sh (Some held) e k = when_again sh held e held.private refl (ok_is a (again held false) k)

    by_shun : (t : Bool) → set.contains (now s).shunned name ≡ t
        → MatchBool t (ok a ≡ Ok arrival.Shunned) (MatchOption (map_of.get (now s).held name) (IsRoom (after (now s) (record_of.Blob false name None bytes)) (Ok a)) (λ held. ok a ≡ Ok (again held false)))
        → Closes s (arrived s name None bytes false (Ok a)) name
    by_shun true e k = not_moved arrival.Shunned (ok_is a arrival.Shunned k) refl
    by_shun false e k = by_held e (map_of.get (now s).held name) refl k

pub past_stopped : (o : Option ℕ) (a : Arrival) (P : Type 0) → MatchOption o P (λ faults. ok a ≡ Err (arrive_fault.Stopped faults)) → P
past_stopped None a P h = h
past_stopped (Some faults) a P h = absurd (no_fault a (arrive_fault.Stopped faults) h)

pub past_size : (t : Bool) (a : Arrival) (e : ArriveFault) (P : Type 0) → MatchBool t (ok a ≡ Err e) P → P
past_size true a e P h = absurd (no_fault a e h)
past_size false a e P h = h

pub past_name : (t : Bool) (a : Arrival) (e : ArriveFault) (P : Type 0) → MatchBool t P (ok a ≡ Err e) → P
past_name true a e P h = h
past_name false a e P h = absurd (no_fault a e h)

moved : (s : State) (name bytes : List ℕ) (a : Arrival) → has_moved a ≡ true → IsArrival s name bytes false (Ok a) → Closes s (arrived s name None bytes false (Ok a)) name
moved s name bytes a m h =
    moved_of s name bytes a m
    (past_name (bytes_eq (name_of bytes) name) a (arrive_fault.NameWrong (name_of bytes)) (IsArrivalOf (now s) name bytes false (Ok a))
    (past_size (nat_lt (2 ^ 24) (length bytes)) a (arrive_fault.TooLarge (length bytes)) _ (past_stopped s.stopped a _ h)))

unmoved : (s : State) (name bytes : List ℕ) (a : Arrival) → has_moved a ≡ false → arrived s name None bytes false (Ok a) ≡ s
unmoved s name bytes arrival.Stored e = no (sym e)
unmoved s name bytes arrival.Published e = no (sym e)
unmoved s name bytes arrival.Present e = refl
unmoved s name bytes arrival.Shunned e = refl

-- ---- what the cards of a reply did

-- closed names stay closed; where something moved, a name of a file was open and is closed; and else the state is the same
record Did (s : State) (reply : List WireCard) (t : Taken) : Type 0 where
  kept : (n : List ℕ) → IsClosed (now s) n → IsClosed (now t.state) n
  moves : any_moved t.arrivals ≡ true → (n : List ℕ) × (has (files_in reply) n ≡ true) × Closes s t.state n
  same : any_moved t.arrivals ≡ false → t.state ≡ s

abbrev FileTaken : State → List ℕ → List ℕ → List WireCard → Taken → Told → Type 0
FileTaken s name bytes rest t answer =
    MatchResult answer (λ a. (more : Taken) × Takes (arrived s name None bytes false answer) None rest more × (t ≡ record more { arrivals = a ∷ more.arrivals }))
    (λ why. t ≡ stopped_by s (arrival_fault name why))

itself_has : (name : List ℕ) (names : List (List ℕ)) → has (name ∷ names) name ≡ true
itself_has name names = ap (λ (b : Bool). b || has names name) ((bytes_decides name name).1 refl)

open_before : (b c : Bool) → (b ≡ true → c ≡ true) → c ≡ false → b ≡ false
open_before true c h e = no (sym e ∙ h refl)
open_before false c h e = refl

did_more : (s : State) (name bytes : List ℕ) (rest : List WireCard) (more : Taken) (a : Arrival) → IsArrival s name bytes false (Ok a) → Did (arrived s name None bytes false (Ok a)) rest more → Did s (cards.File name bytes ∷ rest) (record more { arrivals = a ∷ more.arrivals })
did_more s name bytes rest more a is d =
    record {
      kept = λ n h. d.kept n (stays s name bytes n (Ok a) h);
      moves = λ m. by_first (has_moved a) refl m;
      same = λ m. by_none (has_moved a) refl m;
    }
  where
    by_first : (b : Bool) → has_moved a ≡ b → (has_moved a || any_moved more.arrivals) ≡ true → (n : List ℕ) × (has (name ∷ files_in rest) n ≡ true) × Closes s more.state n
    by_first true e m = let c = moved s name bytes a e is in (name, itself_has name (files_in rest), (c.0, d.kept name c.1))
    by_first false e m =
        let later = d.moves (sym (ap (λ (b : Bool). b || any_moved more.arrivals) e) ∙ m) in (
          later.0,
          or_right (bytes_eq later.0 name) (has (files_in rest) later.0) later.1,
          (open_before (closed (now s) later.0) (closed (now (arrived s name None bytes false (Ok a))) later.0) (stays s name bytes later.0 (Ok a)) later.2.0, later.2.1),
        )

    by_none : (b : Bool) → has_moved a ≡ b → (has_moved a || any_moved more.arrivals) ≡ false → more.state ≡ s
    by_none true e m = no (sym m ∙ ap (λ (b : Bool). b || any_moved more.arrivals) e)
    by_none false e m = d.same (sym (ap (λ (b : Bool). b || any_moved more.arrivals) e) ∙ m) ∙ unmoved s name bytes a e

did_file : (s : State) (name bytes : List ℕ) (rest : List WireCard) (t : Taken) (answer : Told) → IsArrival s name bytes false answer → ((s2 : State) (more : Taken) → Takes s2 None rest more → Did s2 rest more) → FileTaken s name bytes rest t answer → Did s (cards.File name bytes ∷ rest) t
did_file s name bytes rest t (Ok a) is others h =
    subst (Did s (cards.File name bytes ∷ rest)) (sym h.2) (did_more s name bytes rest h.0 a is (others (arrived s name None bytes false (Ok a)) h.0 h.1))
did_file s name bytes rest t (Err why) is others h =
    subst (Did s (cards.File name bytes ∷ rest)) (sym h) (record { kept = λ n k. k; moves = λ m. no m; same = λ m. refl })

did : (s : State) (reply : List WireCard) (t : Taken) → Takes s None reply t → Did s reply t
did s [] t h = subst (Did s []) (sym h) (record { kept = λ n k. k; moves = λ m. no m; same = λ m. refl })
did s (cards.File name bytes ∷ rest) t h = did_file s name bytes rest t h.0 h.1 (λ s2 more. did s2 rest more) h.2
did s (cards.CloneSeqno next ∷ rest) t h = let d = did s rest t h in record { kept = d.kept; moves = d.moves; same = d.same }
did s (cards.Login user nonce signature tail line ∷ rest) t h = let d = did s rest t h in record { kept = d.kept; moves = d.moves; same = d.same }
did s (cards.Push server project ∷ rest) t h = let d = did s rest t h in record { kept = d.kept; moves = d.moves; same = d.same }
did s (cards.Pull server project ∷ rest) t h = let d = did s rest t h in record { kept = d.kept; moves = d.moves; same = d.same }
did s (cards.Clone from ∷ rest) t h = let d = did s rest t h in record { kept = d.kept; moves = d.moves; same = d.same }
did s (cards.Private ∷ rest) t h = let d = did s rest t h in record { kept = d.kept; moves = d.moves; same = d.same }
did s (cards.Igot name private ∷ rest) t h = let d = did s rest t h in record { kept = d.kept; moves = d.moves; same = d.same }
did s (cards.Gimme name ∷ rest) t h = let d = did s rest t h in record { kept = d.kept; moves = d.moves; same = d.same }
did s (cards.Error text ∷ rest) t h = let d = did s rest t h in record { kept = d.kept; moves = d.moves; same = d.same }
did s (cards.Message text ∷ rest) t h = let d = did s rest t h in record { kept = d.kept; moves = d.moves; same = d.same }
did s (cards.SendPrivate ∷ rest) t h = let d = did s rest t h in record { kept = d.kept; moves = d.moves; same = d.same }

-- ---- what the peer gives

past_igots : (igots : List (List ℕ)) (files : List WireCard) → files_in (map igot_card igots ++ files) ≡ files_in files
past_igots [] files = refl
past_igots (x ∷ igots) files = past_igots igots files

no_igots : (files : List (List ℕ × List ℕ)) → announced_in (map file_card files) ≡ []
no_igots [] = refl
no_igots (f ∷ files) = no_igots files

told_are : (igots : List (List ℕ)) (files : List (List ℕ × List ℕ)) → announced_in (local_reply igots files) ≡ igots
told_are [] files = no_igots files
told_are (x ∷ igots) files = ap (λ (l : List (List ℕ)). x ∷ l) (told_are igots files)

sent_are : (files : List (List ℕ × List ℕ)) → files_in (map file_card files) ≡ names_of files
sent_are [] = refl
sent_are (f ∷ files) = ap (λ (l : List (List ℕ)). f.0 ∷ l) (sent_are files)

-- as they are read, the names are those of the held ones
pub sent_names_are : (peer : State) (unclustered asked : List (List ℕ)) (reply : List WireCard) → IsLocalReply peer unclustered asked reply → files_in reply ≡ files_in (map file_card (held_of peer asked))
sent_names_are peer unclustered asked reply h =
    ap files_in h.2 ∙ past_igots unclustered (map file_card h.0) ∙ sent_are h.0 ∙ names_read peer.honest (held_of peer asked) h.0 h.1 ∙ sym (sent_are (held_of peer asked))

pub told_names_are : (peer : State) (unclustered asked : List (List ℕ)) (reply : List WireCard) → IsLocalReply peer unclustered asked reply → announced_in reply ≡ unclustered
told_names_are peer unclustered asked reply h = ap announced_in h.2 ∙ told_are unclustered h.0

-- the names of the peer's artifacts
abbrev held_names : Contents → List (List ℕ)
held_names there = map_of.keys there.held

any_tie : (xs : List (List ℕ)) (n : List ℕ) → has xs n ≡ list_any (eq_by_cmp bytes_cmp n) xs
any_tie [] n = refl
any_tie (x ∷ xs) n = λ k. texts_ties n x k || any_tie xs n k

is_there : (there : Contents) (x bytes : List ℕ) (o : Option Held) → map_of.get there.held x ≡ o → option_map_or (λ a. if a.private then None else Some a.bytes) o None ≡ Some bytes → has (held_names there) x ≡ true
is_there there x bytes None e f = absurd (none_some f)
  where
    none_some : ◌≡◌ {A = Option (List ℕ)} None (Some bytes) → ⊥
    none_some g = cc
is_there there x bytes (Some a) e f = any_tie (held_names there) x ∙ sym (map_of.contains_key-keys there.held x) ∙ ap is_some e

or_either : {P : Type 0} (a b : Bool) → (a || b) ≡ true → (a ≡ true → P) → (b ≡ true → P) → P
or_either true b e p q = p refl
or_either false b e p q = q e

abbrev Files : Contents → List (List ℕ) → List (List ℕ)
Files there asked = files_in (map file_card (filter_map (public_file there) asked))

given_by : (there : Contents) (x : List ℕ) (asked : List (List ℕ)) (n : List ℕ) (o : Option (List ℕ)) → public_bytes there x ≡ o → (has (Files there asked) n ≡ true → has (held_names there) n ≡ true)
    → has (files_in (map file_card (cons_option (option_map (λ bytes. (x, bytes)) o) (filter_map (public_file there) asked)))) n ≡ true → has (held_names there) n ≡ true
given_by there x asked n None e later k = later k
given_by there x asked n (Some bytes) e later k =
    or_either (bytes_eq n x) (has (Files there asked) n) k
    (λ same. subst (λ (m : List ℕ). has (held_names there) m ≡ true) (sym ((bytes_decides n x).0 same)) (is_there there x bytes (map_of.get there.held x) refl e)) later

given_held : (there : Contents) (asked : List (List ℕ)) (n : List ℕ) → has (Files there asked) n ≡ true → has (held_names there) n ≡ true
given_held there [] n h = no h
given_held there (x ∷ asked) n h = given_by there x asked n (public_bytes there x) refl (λ k. given_held there asked n k) h

-- ---- how many of the peer's names are open

both_most : (p q : List ℕ → Bool) (x : List ℕ) (xs : List (List ℕ)) → length (filter q xs) ≤ length (filter p xs) → (a b : Bool) → (b ≡ true → a ≡ true)
    → length (cond b (x ∷ filter q xs) (filter q xs)) ≤ length (cond a (x ∷ filter p xs) (filter p xs))
both_most p q x xs rest true true k = omega (arith, rest)
both_most p q x xs rest true false k = omega (arith, rest)
both_most p q x xs rest false true k = no (k refl)
both_most p q x xs rest false false k = rest

at_most : (p q : List ℕ → Bool) (xs : List (List ℕ)) → ((x : List ℕ) → q x ≡ true → p x ≡ true) → length (filter q xs) ≤ length (filter p xs)
at_most p q [] h = omega arith
at_most p q (x ∷ xs) h = both_most p q x xs (at_most p q xs h) (p x) (q x) (h x)

fewer : (p q : List ℕ → Bool) (xs : List (List ℕ)) (n : List ℕ) → ((x : List ℕ) → q x ≡ true → p x ≡ true) → has xs n ≡ true → p n ≡ true → q n ≡ false → length (filter q xs) < length (filter p xs)
fewer p q [] n h k pn qn = no k
fewer p q (x ∷ xs) n h k pn qn = or_either (bytes_eq n x) (has xs n) k (λ same. here ((bytes_decides n x).0 same)) (λ later. there (p x) (q x) (h x) (fewer p q xs n h later pn qn))
  where
    here_by : (a b : Bool) → a ≡ true → b ≡ false → length (cond b (x ∷ filter q xs) (filter q xs)) < length (cond a (x ∷ filter p xs) (filter p xs))
    here_by true false e f = let rest = at_most p q xs h in omega (arith, rest)
    here_by true true e f = no (sym f)
    here_by false b e f = no e

    here : n ≡ x → length (cond (q x) (x ∷ filter q xs) (filter q xs)) < length (cond (p x) (x ∷ filter p xs) (filter p xs))
    here e = here_by (p x) (q x) (ap p (sym e) ∙ pn) (ap q (sym e) ∙ qn)

    there : (a b : Bool) → (b ≡ true → a ≡ true) → length (filter q xs) < length (filter p xs) → length (cond b (x ∷ filter q xs) (filter q xs)) < length (cond a (x ∷ filter p xs) (filter p xs))
    there true true i rest = omega (arith, rest)
    there true false i rest = omega (arith, rest)
    there false true i rest = no (i refl)
    there false false i rest = rest

abbrev opens : State → List ℕ → Bool
opens s n = not (closed (now s) n)

abbrev pub measure : Contents → State → ℕ
measure there s = length (filter (opens s) (held_names there))

-- ---- rounds

abbrev Names : Type 0
Names = List (List ℕ)

-- the names that are asked for are those that are next
abbrev pub IsWarm : Names → Point Names → Type 0
IsWarm unclustered p = (wanted : Names) × AreWants p.state wanted × (p.memory ≡ next_names (now p.state) wanted unclustered)

all_have : (xs ys : Names) → ((n : List ℕ) → has xs n ≡ true → has ys n ≡ true) → list_all (has ys) xs ≡ true
all_have [] ys h = refl
all_have (x ∷ xs) ys h =
    ap (λ (b : Bool). b && list_all (has ys) xs) (h x (itself_has x xs)) ∙ all_have xs ys (λ n k. h n (or_right (bytes_eq n x) (has xs n) k))

-- it ends here, or goes on to a warm point, behind which no more names are open; and behind a warm point fewer are
pub record GoesFurther (there : Contents) (unclustered : Names) (p m : Point Names) : Type 0 where
  pub warm : IsWarm unclustered m
  pub most : measure there m.state ≤ measure there p.state
  pub less : IsWarm unclustered p → measure there m.state < measure there p.state

data Goes (there : Contents) (unclustered : Names) (p : Point Names) (step : Then Names) : Type 0 where
  at_end : (e : End) → step ≡ ends e → Goes there unclustered p step
  further : (m : Point Names) → step ≡ goes_on m → GoesFurther there unclustered p m → Goes there unclustered p step

still_closed : (a b : Bool) → (a ≡ true → b ≡ true) → not b ≡ true → not a ≡ true
still_closed true b h e = no (sym (ap not (h refl)) ∙ e)
still_closed false b h e = refl

module _ (peer : State) (unclustered : Names) (p : Point Names) (reply : List WireCard) (gives : IsLocalReply peer unclustered p.memory reply) (t : Taken) (takes : Takes p.state None reply t) (wanted : Names) (are : AreWants t.state wanted) where
  abbrev there : Contents
  there = now peer

  abbrev Next : Names
  Next = next_names (now t.state) wanted (announced_in reply)

  no_more : length (filter (opens t.state) (held_names there)) ≤ length (filter (opens p.state) (held_names there))
  no_more =
      let d = did p.state reply t takes in
      at_most (opens p.state) (opens t.state) (held_names there) (λ x o. still_closed (closed (now p.state) x) (closed (now t.state) x) (d.kept x) o)

  less_when_moved : any_moved t.arrivals ≡ true → length (filter (opens t.state) (held_names there)) < length (filter (opens p.state) (held_names there))
  less_when_moved e =
      let d = did p.state reply t takes in
      let m = d.moves e in
      fewer (opens p.state) (opens t.state) (held_names there) m.0 (λ x o. still_closed (closed (now p.state) x) (closed (now t.state) x) (d.kept x) o)
      (given_held there p.memory m.0 (sym (ap (λ (l : Names). has l m.0) (sent_names_are peer unclustered p.memory reply gives)) ∙ m.1)) (ap not m.2.0) (ap not m.2.1)

  -- where nothing moved, the names that are next are those that were asked for
  all_asked : IsWarm unclustered p → t.state ≡ p.state → Next ≡ p.memory
  all_asked (w, are_w, memory) same =
      let wants_same : wanted ≡ w = one_wants p.state wanted w (subst (λ (s : State). AreWants s wanted) same are) are_w in
      (λ i. next_names (now (same i)) (wants_same i) (told_names_are peer unclustered p.memory reply gives i)) ∙ sym memory

  never : IsWarm unclustered p → any_moved t.arrivals ≡ false → is_end p.memory t Next ≡ true
  never warm e =
      let d = did p.state reply t takes in
      let same = all_asked warm (d.same e) in
      ap (λ (b : Bool). not b && list_all (has p.memory) Next) e ∙ all_have Next p.memory (λ n k. subst (λ (l : Names). has l n ≡ true) same k)

  by_moved : (b : Bool) → any_moved t.arrivals ≡ b → is_end p.memory t Next ≡ false → IsWarm unclustered p → length (filter (opens t.state) (held_names there)) < length (filter (opens p.state) (held_names there))
  by_moved true e last warm = less_when_moved e
  by_moved false e last warm = no (sym last ∙ never warm e)

  goes_by : (b : Bool) → is_end p.memory t Next ≡ b → Goes there unclustered p (cond b (ends (ended p t None)) (goes_on (behind p t Next)))
  goes_by true e = at_end (ended p t None) refl
  goes_by false e =
      further (behind p t Next) refl
      (record {
        warm = (wanted, are, ap (next_names (now t.state) wanted) (told_names_are peer unclustered p.memory reply gives));
        most = no_more;
        less = λ warm. by_moved (any_moved t.arrivals) refl e warm;
      })

goes_fault : (peer : State) (unclustered : Names) (p : Point Names) (reply : List WireCard) → IsLocalReply peer unclustered p.memory reply → (t : Taken) → Takes p.state None reply t → (step : Then Names) (o : Option PullFault)
    → MatchOption o ((wanted : Names) × AreWants t.state wanted × (step ≡ local_then p reply t wanted)) (λ why. step ≡ ends (uncommitted p t why)) → Goes (now peer) unclustered p step
goes_fault peer unclustered p reply gives t takes step None h =
    subst (Goes (now peer) unclustered p) (sym h.2)
    (goes_by peer unclustered p reply gives t takes h.0 h.1 (is_end p.memory t (next_names (now t.state) h.0 (announced_in reply))) refl)
goes_fault peer unclustered p reply gives t takes step (Some why) h = at_end (uncommitted p t why) h

goes : (peer : State) (unclustered : Names) (p : Point Names) (r : Round Names (List WireCard)) (step : Then Names) → LocalRound peer unclustered p r step → Goes (now peer) unclustered p step
goes peer unclustered p r step h = goes_fault peer unclustered p r.reply h.1 h.2.0 h.2.1 step (h.2.0).fault h.2.2

no_end : (e : End) (m : Point Names) → goes_on m ≡ ends e → ⊥
no_end e m h = cc

point_is : (m q : Point Names) → goes_on m ≡ goes_on q → q ≡ m
point_is m q h = cc

-- a round that goes on goes further
pub goes_further : (peer : State) (unclustered : Names) (p m : Point Names) (r : Round Names (List WireCard)) → LocalRound peer unclustered p r (goes_on m) → GoesFurther (now peer) unclustered p m
goes_further peer unclustered p m r h = by (goes peer unclustered p r (goes_on m) h)
  where
    by : Goes (now peer) unclustered p (goes_on m) → GoesFurther (now peer) unclustered p m
    by (at_end e same) = absurd (no_end e m same)
    by (further q same k) = subst (GoesFurther (now peer) unclustered p) (point_is m q same) k

abbrev Ending : State → Names → Point Names → Type 0
Ending peer unclustered p = (rounds : List (Round Names (List WireCard))) × (e : End) × EndsIn (LocalRound peer unclustered) p rounds e

by_goes : (peer : State) (unclustered : Names) (p : Point Names) (r : Round Names (List WireCard)) (step : Then Names) → LocalRound peer unclustered p r step → Goes (now peer) unclustered p step
    → ((m : Point Names) → GoesFurther (now peer) unclustered p m → Ending peer unclustered m) → Ending peer unclustered p
by_goes peer unclustered p r step is (at_end e same) others =
    (r ∷ [], e, inl (refl, subst (LocalRound peer unclustered p r) same is))
by_goes peer unclustered p r step is (further m same k) others =
    let more = others m k in
    (r ∷ more.0, more.1, inr (m, subst (LocalRound peer unclustered p r) same is, more.2))

abbrev own_round : State → Names → Point Names → Round Names (List WireCard)
own_round peer unclustered p = record { request = p.memory; reply = local_reply unclustered (held_of peer p.memory) }

ends_warm : (k : ℕ) (peer : State) (unclustered : Names) (p : Point Names) → measure (now peer) p.state ≤ k → IsWarm unclustered p → Ending peer unclustered p
ends_warm zero peer unclustered p few warm =
    let s = local_step some_items some_read peer unclustered p in
    by_goes peer unclustered p (own_round peer unclustered p) s.0 s.1 (goes peer unclustered p (own_round peer unclustered p) s.0 s.1) (λ m f. let l = f.less warm in absurd (omega (arith, few, l)))
ends_warm (suc k) peer unclustered p few warm =
    let s = local_step some_items some_read peer unclustered p in
    by_goes peer unclustered p (own_round peer unclustered p) s.0 s.1 (goes peer unclustered p (own_round peer unclustered p) s.0 s.1) (λ m f. ends_warm k peer unclustered m (let l = f.less warm in omega (arith, few, l)) f.warm)

ends_from : (peer : State) (unclustered : Names) (p : Point Names) → Ending peer unclustered p
ends_from peer unclustered p =
    let s = local_step some_items some_read peer unclustered p in
    by_goes peer unclustered p (own_round peer unclustered p) s.0 s.1 (goes peer unclustered p (own_round peer unclustered p) s.0 s.1) (λ m f. ends_warm (measure (now peer) m.state) peer unclustered m (omega arith) f.warm)

-- a bound of the rounds that may follow so many: the first may leave as many names open as there were
abbrev pub rounds_left : Contents → State → ℕ → ℕ
rounds_left there s n = measure there s + (1 - n)

fewer_left : (n a b : ℕ) → b ≤ a → (0 < n → b < a) → b + (1 - (n + 1)) < a + (1 - n)
fewer_left zero a b most less = omega (arith, most)
fewer_left (suc n) a b most less = let l = less (omega arith) in omega (arith, l)

pub one_fewer : (there : Contents) (unclustered : Names) (p m : Point Names) (n : ℕ) → GoesFurther there unclustered p m → (0 < n → IsWarm unclustered p) → rounds_left there m.state (n + 1) < rounds_left there p.state n
one_fewer there unclustered p m n f warm = fewer_left n (measure there p.state) (measure there m.state) f.most (λ some. f.less (warm some))

by_stopped : (s peer : State) (o : Option ℕ) →
    (rounds : List (Round Names (List WireCard))) × (e : End) × MatchOption o (AreLocalRounds s peer rounds e) (λ faults. (rounds ≡ []) × (e ≡ stopped_end s faults))
by_stopped s peer None =
    let u = unclustered_for some_items some_read peer in
    let w = wants_for some_items some_read s in
    let is = ends_from peer u.0 (pull_start s w.0) in
    (is.0, is.1, (u.0, u.1, (w.0, w.1, is.2)))
by_stopped s peer (Some faults) = ([], stopped_end s faults, (refl, refl))

by_project : (s peer : State) (b : Bool) →
    (rounds : List (Round Names (List WireCard))) × (e : End)
    × MatchBool b (MatchOption s.stopped (AreLocalRounds s peer rounds e) (λ faults. (rounds ≡ []) × (e ≡ stopped_end s faults))) ((rounds ≡ []) × (e ≡ other_project_end s (project_code (now peer))))
by_project s peer true = by_stopped s peer s.stopped
by_project s peer false = ([], other_project_end s (project_code (now peer)), (refl, refl))

pub local_pulls_end : LocalPullsEnd
local_pulls_end s peer = by_project s peer (bytes_eq (project_code (now s)) (project_code (now peer)))
