-- The reply that is built.
use Rattle.std.proofs.Common.{◌≡◌, inl, inr, ℕ, Bool, true, false, cond, zero, suc, List, [], ◌∷◌, length, map, take, Option, Some, None, Ok, Err, refl, sym, ap, subst, ◌∙◌}
use Rattle.std.specs.Prelude.{◌&&◌, ◌||◌, not, nat_le, filter, filter_map, find, is_some, IfSome, if◌then◌else◌}
use Rattle.std.specs.List.{AllZip, AllByRecursion, cons_option, list_any}
use Rattle.std.specs.Option.{option_map}
use Rattle.std.specs.Str.{bytes_eq}
use Rattle.std.specs.FinMap as map_of
use Rattle.fsl_name.specs.Name.{name_of}
use Rattle.fsl_order.specs.Names.{has}
use Rattle.fsl_disk.specs.Disk.{DiskState}
use Rattle.fsl_record.specs.declared.Record.{Record}
use Rattle.fsl_record.specs.Records.{AreRecords, IsFit}
use Rattle.fsl_journal.specs.Log.{Log}
use Rattle.fsl_blobs.specs.Seen as blobs
use Rattle.fsl_blobs.specs.Fold.{Held, AreNamed, contents, held_from}
use Rattle.fsl_blobs.proofs.NamedHeld.{held_are_named}
use Rattle.fsl_cluster.specs.declared.Fact.{Fact}
use Rattle.fsl_cross.specs.declared.Item.{Item}
use Rattle.fsl_cross.specs.Tables as tables
use Rattle.fsl_cross.specs.Facts.{cluster_fact}
use Rattle.fsl_answer.specs.Contents as reply
use Rattle.fsl_answer.specs.Contents.{sent_file, taken_count}
use Rattle.fsl_answer.specs.Replies.{reply_text}
use Rattle.fsl_answer.specs.declared.Lists.{Lists}
use Rattle.fsl_answer.specs.declared.SentFile.{SentFile}
use Rattle.fsl_repo.specs.declared.Ask.{Ask}
use Rattle.fsl_repo.specs.declared.BuildFault.{BuildFault}
use Rattle.fsl_repo.specs.declared.BuildFault.TheVariants as build_fault
use Rattle.fsl_repo.specs.declared.sending.Due.{Due}
use Rattle.fsl_repo.specs.Keeping.{IsKept, state_of}
use Rattle.fsl_repo.specs.Machine.{State, AreItems, Leaves, now}
use Rattle.fsl_repo.specs.Replies.{BuildStep, IsSent, IsSentAs, held_at, placed, placed_in, reply_lists, reply_state}
use Rattle.fsl_repo.specs.Sending.{AreDueIn, FilesFail, IsReadFile, as_due, due_of, files_for, seen_by}
use Rattle.fsl_repo.specs.Whole.{is_modelled}
use Rattle.fsl_repo.proofs.Clusterings.{clusters_are}
use Rattle.fsl_repo.proofs.Placings.{all_held}
use Rattle.fsl_repo.proofs.Sendings.{files_are, names_are}

-- ---- the parts of a repository, and what a reply depends on

module _ (log : Log) (held : blobs.Seen) (all : tables.Seen) (start count : ℕ) (disk : DiskState) (kept : IsKept log held all start count disk) where
  abbrev its_state : State
  its_state = state_of log held disk.faults (is_modelled disk)

  pub seen_is : (facts : List Fact) → facts ≡ (tables.tables all.fields all.items).clusters → seen_by held facts ≡ reply_state its_state all.items
  seen_is facts is =
      ap (seen_by held) (is ∙ clusters_are (contents log.records).held all.items all.fields kept.items)
      ∙ ap (λ (rs : List Record). seen_by (record held { records = rs }) (map cluster_fact all.items)) kept.same.records

  pub due_is : (ask : Ask) → files_for held.records ask ≡ ((reply_lists its_state all.items ask).files, (reply_lists its_state all.items ask).sequel)
  due_is ask = files_are held.records (all_held held.records) (reply_state its_state all.items) (ap placed_in (sym kept.same.records)) ask.message ask.caps

-- ---- what is chosen of a list

module _ {X : Type 0} (P : X → Type 0) where
  found_of : (p : X → Bool) (xs : List X) → AllByRecursion P xs → IfSome (find p xs) P
  found_of p [] all = tt
  found_of p (x ∷ xs) all = elim (p x) as (λ b. IfSome (cond b (Some x) (find p xs)) P) [
    | true ↦ all.0
    | false ↦ found_of p xs all.1
  ]

  chosen_of : {Y : Type 0} (f : Y → Option X) → ((y : Y) → IfSome (f y) P) → (ys : List Y) → AllByRecursion P (filter_map f ys)
  chosen_of f each [] = tt
  chosen_of {Y} f each (y ∷ ys) = by (f y) (each y) (chosen_of f each ys)
    where
      by : (o : Option X) → IfSome o P → AllByRecursion P (filter_map f ys) → AllByRecursion P (cons_option o (filter_map f ys))
      by None h rest = rest
      by (Some x) h rest = (h, rest)

  filtered_of : (p : X → Bool) (xs : List X) → AllByRecursion P xs → AllByRecursion P (filter p xs)
  filtered_of p [] all = tt
  filtered_of p (x ∷ xs) all = elim (p x) as (λ b. AllByRecursion P (cond b (x ∷ filter p xs) (filter p xs))) [
    | true ↦ (all.0, filtered_of p xs all.1)
    | false ↦ filtered_of p xs all.1
  ]

  taken_of : (n : ℕ) (xs : List X) → AllByRecursion P xs → AllByRecursion P (take n xs)
  taken_of zero xs all = tt
  taken_of (suc n) [] all = tt
  taken_of (suc n) (x ∷ xs) all = (all.0, taken_of n xs all.1)

  mapped_of : {Y : Type 0} (f : Y → X) (ys : List Y) → AllByRecursion (λ y. P (f y)) ys → AllByRecursion P (map f ys)
  mapped_of f [] all = tt
  mapped_of f (y ∷ ys) all = (all.0, mapped_of f ys all.1)

-- ---- the files of a reply are those of held artifacts

some_same : {X : Type 0} (x y : X) → Some x ≡ Some y → x ≡ y
some_same x y e = cc

fit_of : (records : List Record) → AreRecords records → AllByRecursion IsFit records
fit_of [] are = absurd are
fit_of (r ∷ records) are = are.2

-- a file of the artifact that is held under its name
record IsOfHeld (s : State) (f : SentFile) : Type 0 where
  artifact : Held
  held : map_of.get (now s).held f.name ≡ Some artifact
  bytes : f.bytes ≡ artifact.bytes

module _ (s : State) (items : List Item) (ask : Ask) where
  abbrev IsHeld : reply.Held → Type 0
  IsHeld h = IsOfHeld s (sent_file h)

  all_placed : (ps : List (ℕ × List ℕ)) → AllByRecursion IsHeld (filter_map (λ p. option_map (held_at p) (map_of.get (now s).held p.1)) ps)
  all_placed [] = tt
  all_placed (p ∷ ps) = by_held (map_of.get (now s).held p.1) refl (all_placed ps)
    where
      by_held : (o : Option Held) → map_of.get (now s).held p.1 ≡ o → AllByRecursion IsHeld (filter_map (λ p. option_map (held_at p) (map_of.get (now s).held p.1)) ps)
          → AllByRecursion IsHeld (cons_option (option_map (held_at p) o) (filter_map (λ p. option_map (held_at p) (map_of.get (now s).held p.1)) ps))
      by_held None g rest = rest
      by_held (Some a) g rest = (record { artifact = a; held = g; bytes = refl }, rest)

  abbrev seen : reply.State
  seen = reply_state s items

  abbrev private : Bool
  private = reply.sends_private ask.message ask.caps

  chosen : (from : Option ℕ) → AllByRecursion IsHeld (reply.candidates seen ask.message ask.caps from)
  chosen None =
      elim (list_any reply.is_pull ask.message || is_some (reply.first_clone ask.message)) as (λ b.
      AllByRecursion IsHeld (if b then filter_map (reply.sendable seen private) (reply.each_once [] (filter_map reply.gimme_of ask.message)) else [])) [
        | true ↦
            chosen_of IsHeld (reply.sendable seen private)
            (λ name. found_of IsHeld (λ h. bytes_eq h.name name && (private || not h.private)) (placed s) (all_placed (held_from s.records 0)))
            (reply.each_once [] (filter_map reply.gimme_of ask.message))
        | false ↦ tt
      ]
  chosen (Some place) = filtered_of IsHeld (λ h. not h.private && nat_le place h.place) (placed s) (all_placed (held_from s.records 0))

  abbrev whole : Lists
  whole = reply_lists s items ask

  files_held : AllByRecursion (IsOfHeld s) whole.files
  files_held =
      let from = reply.asks_from (reply.first_clone ask.message) in
      let found = reply.candidates seen ask.message ask.caps from in
      mapped_of (IsOfHeld s) sent_file (take (taken_count found) found) (taken_of IsHeld (taken_count found) found (chosen from))

  module _ (named : AreNamed (now s).held) where
    one_sent : (f : SentFile) (d : Due) (r : SentFile) → IsOfHeld s f → as_due d ≡ due_of f → IsReadFile s d r → IsSentAs s.honest f r
    one_sent f d r of due read =
        let name : d.name ≡ f.name = ap (λ t. t.0) due in
        let private : d.private ≡ f.private = ap (λ t. t.1) due in
        let held : map_of.get (now s).held f.name ≡ Some read.content.artifact = sym (ap (map_of.get (now s).held) name) ∙ read.content.held in
        let same : of.artifact ≡ read.content.artifact = some_same of.artifact read.content.artifact (sym of.held ∙ held) in
        let bytes : f.bytes ≡ read.content.artifact.bytes = of.bytes ∙ ap (λ (a : Held). a.bytes) same in
        let right : f.name ≡ name_of of.artifact.bytes = subst (λ (o : Option Held). IfSome o (λ a. f.name ≡ name_of a.bytes)) of.held (named f.name) in
        record {
          alike = λ i. record { name = (read.name ∙ name) i; private = (read.private ∙ private) i; bytes = r.bytes };
          named = read.content.named ∙ name ∙ right ∙ sym (ap name_of of.bytes);
          sized = read.content.sized ∙ sym (ap length bytes);
          same = λ honest. read.content.same honest ∙ sym bytes;
        }

    all_sent : (files : List SentFile) (due : List Due) (read : List SentFile) → AllByRecursion (IsOfHeld s) files → map as_due due ≡ map due_of files → AllZip (IsReadFile s) due read → AllZip (IsSentAs s.honest) files read
    all_sent [] [] [] of same all = tt
    all_sent [] [] (r ∷ read) of same all = absurd all
    all_sent [] (d ∷ due) read of same all = absurd cc
    all_sent (f ∷ files) [] read of same all = absurd cc
    all_sent (f ∷ files) (d ∷ due) [] of same all = absurd all
    all_sent (f ∷ files) (d ∷ due) (r ∷ read) of same all =
        let one : as_due d ≡ due_of f = cc in
        let rest : map as_due due ≡ map due_of files = cc in
        (one_sent f d r of.0 one all.0, all_sent files due read of.1 rest all.1)

-- ---- the step

module _ (s : State) (items : List Item) (each : AreItems (now s).held items) (ask : Ask) (due : List Due) (sequel : Option ℕ) (are : AreDueIn (reply_lists s items ask) due sequel) where
  abbrev lists : Lists
  lists = reply_lists s items ask

  pub built_step : AreRecords s.records → (read : List SentFile) (text : List ℕ) (new : State) → AllZip (IsReadFile s) due read
      → text ≡ reply_text (record lists { files = read; sequel = sequel }) → new ≡ s → BuildStep s ask (Ok text) new
  built_step records read text new all made same =
      let named = held_are_named s.records (fit_of s.records records) in
      let sent = all_sent s items ask named lists.files due read (files_held s items ask) are.0 all in
      let is = made ∙ ap (λ (q : Option ℕ). reply_text (record lists { files = read; sequel = q })) are.1 in
      inl (inl (inl (items, read, each, sent, ap Ok is)), same)

  is_sent : (name : List ℕ) → has (map (λ d. d.name) due) name ≡ true → IsSent s ask name
  is_sent name there = (items, each, subst (λ (names : List (List ℕ)). has names name ≡ true) (names_are due lists.files are.0) there)

  stays : (new : State) → new.faults ≡ s.faults → Leaves s s new → new ≡ s
  stays new same left = left.state ∙ ap (λ (n : ℕ). record s { faults = n }) same

  pub unread_step : (fault : BuildFault) (new : State) → FilesFail fault (map (λ d. d.name) due) s new.faults → Leaves s s new → BuildStep s ask (Err fault) new
  unread_step build_fault.Disk new failed left = inr (failed.0, is_sent failed.0 failed.1, refl, failed.2, left)
  unread_step (build_fault.Damaged name found) new failed left = inl (inl (inr (name, found, is_sent name failed.0, failed.1, refl)), stays new failed.2 left)
  unread_step build_fault.Memory new failed left = inl (inr refl, stays new failed left)

-- there was no memory
pub unbuilt_step : (s : State) (ask : Ask) (new : State) → new ≡ s → BuildStep s ask (Err build_fault.Memory) new
unbuilt_step s ask new same = inl (inr refl, same)
