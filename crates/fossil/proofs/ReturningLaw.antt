-- The tree that `checkin` took comes back.
use Rattle.std.proofs.Common.{◌≡◌, ◌≢◌, inl, inr, ℕ, ◌^◌, ◌<◌, Bool, true, false, List, [], ◌∷◌, ◌++◌, length, take, drop, map, Option, Some, None, Result, Ok, Err, refl, sym, ap, subst, ◌∙◌, arith}
use Rattle.std.specs.Prelude.{◌||◌, nat_lt, flat_map, option_map, IfSome, MatchBool}
use Rattle.std.specs.List.{AllByRecursion, list_all}
use Rattle.std.specs.Str.{bytes_eq}
use Rattle.std.specs.Cmp.Lexicographic.{bytes_decides}
use Rattle.std.specs.FinMap as map_of
use Rattle.std.specs.FinSet as set
use Rattle.std.specs.FinSet.{FinSet}
use Rattle.std.proofs.lemmas.List.{append-nil, drop_at}
use Rattle.fsl_order.specs.Names.{bytes_cmp, has}
use Rattle.fsl_name.specs.Name.{IsName, name_of, name_text}
use Rattle.fsl_date.specs.Moment.{IsMoment}
use Rattle.fsl_record.specs.declared.Record.{Record}
use Rattle.fsl_record.specs.Records.{AreRecords, IsFit}
use Rattle.fsl_journal.specs.File.{IsFileOf}
use Rattle.fsl_journal.proofs.Failing.{no_file}
use Rattle.fsl_journal.proofs.Unique.{one_file}
use Rattle.fsl_text.specs.Paths.{path_ok}
use Rattle.fsl_uv.proofs.Digests.{name-is}
use Rattle.fsl_blobs.specs.Fold.{AreNamed, Contents, Held, HeldSet, contents}
use Rattle.fsl_blobs.proofs.NamedHeld.{held_are_named}
use Rattle.fsl_cross.specs.declared.Item.{Item}
use Rattle.fsl_repo.specs.Machine.{AreItems, now}
use Rattle.fsl_repo.specs.Whole.{opened}
use Rattle.fsl_query.specs.declared.Refused.{Refused}
use Rattle.fsl_words.specs.declared.Command.{Command}
use Rattle.fsl_words.specs.declared.Words.{Words}
use Rattle.fsl_words.specs.Grammar.{words_in}
use Rattle.fsl_checkin.specs.declared.types.TreeItem.{TreeItem}
use Rattle.fsl_checkin.specs.Trees.{IsTreeText, paths, tree_text}
use Rattle.fsl_checkin.specs.Exports.{held_at}
use Rattle.fsl_checkin.specs.Laws.{AreHeld}
use Rattle.fsl_checkin.proofs.LawLemmas.{one_tree, written_reads_back}
use Rattle.fossil.specs.declared.reading.message.MessageFile.{MessageFile}
use Rattle.fossil.specs.declared.commands.checkin.NewCheckin.{NewCheckin}
use Rattle.fossil.specs.Printed.{Printed}
use Rattle.fossil.specs.Printed as printing
use Rattle.fossil.specs.Arrivals.{Taken, none_taken, Arrive}
use Rattle.fossil.specs.Put.{appended_by, put_receipt}
use Rattle.fossil.specs.Checkins.{IsCheckinRead, IsOver, arrivals_of, bad_item, checked_in, parent_of}
use Rattle.fossil.specs.CheckinCall.{asked_for}
use Rattle.fossil.specs.Acts.{IsObeyable}
use Rattle.fossil.specs.Outcome.{IsCheckinOf, IsLoaded, IsSaidOutcome, IsExportedBy, IsVerifiedBy, Outcome, one_commit, said, with_commit, without_commit}
use Rattle.fossil.specs.Run.{StandsFor, StandsForAll, after_commits}
use Rattle.fossil.specs.Returning.{AreWelcome, Call, ComesBack, ComesBackIf, HaveOwnNames, IsHadFrom, IsTakenOver, IsThere, TreeComesBack, right_printed, text_over, tree_printed}
use Rattle.fossil.proofs.ArrivalLemmas.{refused_files}
use Rattle.fossil.proofs.CheckinLemmas.{good_tree}
use Rattle.fossil.proofs.OneCheckin.{short_of}
use Rattle.fossil.proofs.WordsLemmas.{obeyable}
use Rattle.fossil.proofs.ReturningName.{says_export, says_verify}
use Rattle.fossil.proofs.ReturningText.{parent_named, reads_as_checkin}
use Rattle.fossil.proofs.ReturningHeld.{HaveArrived, IsWelcome, Stands, all_arrived}
use Rattle.fossil.proofs.ReturningTree.{had_from}

-- ---- the records

fits : (records : List Record) → AreRecords records → AllByRecursion IsFit records
fits [] are = absurd are
fits (r ∷ records) are = are.2

of_named : (name text : List ℕ) (o : Option Held) → IfSome o (λ a. name ≡ name_of a.bytes) → option_map (λ (a : Held). a.bytes) o ≡ Some text → name ≡ name_of text
of_named name text None n h = absurd cc
of_named name text (Some a) n h = let same : a.bytes ≡ text = cc in n ∙ ap name_of same

-- the one commit of what was appended
committed : (appended : List Record) → flat_map (λ (commit : List Record). commit) (take (length (one_commit appended)) (one_commit appended)) ≡ appended
committed [] = refl
committed (r ∷ appended) = append-nil (r ∷ appended)

-- bytes that stand for records are a file of them
stands_file : (old more : List Record) (bytes : List ℕ) → AreRecords old → StandsFor (old ++ more) bytes → IsFileOf bytes (old ++ more)
stands_file [] more bytes are h = absurd are
stands_file (r ∷ old) more bytes are h = h

-- ---- what arrives

named_all : (t : List TreeItem) (text : List ℕ) → AllByRecursion (λ f. f.name ≡ name_of f.bytes) (arrivals_of t text)
named_all [] text = (refl, tt)
named_all (item ∷ t) text = (refl, named_all t text)

first_has : (b : List ℕ) (rest : Bool) → (bytes_eq b b || rest) ≡ true
first_has b rest = ap (λ (x : Bool). x || rest) ((bytes_decides b b).1 refl)

later_has : (first rest : Bool) → rest ≡ true → (first || rest) ≡ true
later_has true rest h = refl
later_has false rest h = h

-- of what arrives, the tree's contents and the text
all_held : (held : HeldSet) (t : List TreeItem) (text : List ℕ) → AllByRecursion (λ f. held_at held f.name ≡ Some f.bytes) (arrivals_of t text) → AreHeld held t × (held_at held (name_of text) ≡ Some text)
all_held held [] text h = (tt, h.0)
all_held held (item ∷ t) text h = let rest = all_held held t text h.1 in ((h.0, rest.0), rest.1)

module _ (Is : List ℕ → Type 0) (apart : (a b : List ℕ) → Is a → Is b → name_of a ≡ name_of b → a ≡ b) (shunned : FinSet bytes_cmp) where
  welcome : (files : List MessageFile) → AllByRecursion (λ f. f.name ≡ name_of f.bytes) files → ((b : List ℕ) → has (map (λ f. f.bytes) files) b ≡ true → Is b) → AllByRecursion (λ f. set.contains shunned f.name ≡ false) files
      → AllByRecursion (IsWelcome Is apart shunned) files
  welcome [] named is out = tt
  welcome (f ∷ files) named is out = (
    record { named = named.0; is = is f.bytes (first_has f.bytes (has (map (λ g. g.bytes) files) f.bytes)); out = out.0 },
    welcome files named.1 (λ b h. is b (later_has (bytes_eq b f.bytes) (has (map (λ g. g.bytes) files) b) h)) out.1,
  )

-- ---- a check-in that was made

module _ (call : Call) (are : AreRecords call.old) (user : call.asked.user ≢ []) (comment : call.asked.comment ≢ []) (calendar : IsMoment call.moment) (short : length call.input < 2 ^ 64)
    (t : List TreeItem) (over : Option (List ℕ)) (taken : IsTakenOver call t over) where
  abbrev c : Contents
  c = contents call.old

  abbrev text : List ℕ
  text = text_over call t over

  abbrev files : List MessageFile
  files = arrivals_of t text

  named : AreNamed c.held
  named = held_are_named call.old (fits call.old are)

  good : list_all path_ok (paths t) ≡ true
  good = good_tree call.input t taken.tree

  module _ (out : AreWelcome c files) (own : HaveOwnNames c files) (done : Taken)
      (arrive : Arrive (Some (put_receipt call.moment)) (none_taken (opened call.old 0 true)) files (Ok done)) where
    abbrev Is : List ℕ → Type 0
    Is = IsThere c files

    start : Stands Is own c.shunned (opened call.old 0 true)
    start = record { runs = refl; shuns = refl; each = λ name x h. (of_named name x (map_of.get c.held name) (named name) h, inl (name, h)) }

    have : HaveArrived Is own c.shunned (opened call.old 0 true) done.state files
    have = all_arrived Is own c.shunned (Some (put_receipt call.moment)) files (none_taken (opened call.old 0 true)) done start
        (welcome Is own c.shunned files (named_all t text) (λ b h. inr h) out) arrive

    each_named : (q : List ℕ) (a : Held) → map_of.get (now done.state).held q ≡ Some a → IsName q
    each_named q a h = subst IsName (sym (have.goes.stands.each q a.bytes (ap (λ (o : Option Held). option_map (λ (x : Held). x.bytes) o) h)).0) (name-is a.bytes)

    had : IsHadFrom (now done.state) (name_of text) t
    had =
        let held = all_held (now done.state).held t text have.here in
        had_from (now done.state) t over call.asked.user call.asked.comment call.moment text (name_of text)
        (reads_as_checkin t over call.asked.user call.asked.comment call.moment (parent_named c taken.items taken.each named call.asked.parent over taken.parent) user comment calendar good taken.tree.rising)
        held.1 held.0 each_named

    -- the records after it
    grown : (o : Outcome) → o ≡ with_commit (checked_in text (Ok done)) (appended_by call.old (Ok done)) → after_commits call.old o.commits (length o.commits) ≡ done.state.records
    grown o same =
        ap (λ (x : Outcome). after_commits call.old x.commits (length x.commits)) same
        ∙ ap (λ (rs : List Record). call.old ++ rs) (committed (drop (length call.old) done.state.records) ∙ ap (drop (length call.old)) have.goes.records ∙ drop_at call.old have.goes.more (length call.old) refl)
        ∙ sym have.goes.records

    module _ (o : Outcome) (same : o ≡ with_commit (checked_in text (Ok done)) (appended_by call.old (Ok done))) where
      abbrev after_it : List Record
      after_it = after_commits call.old o.commits (length o.commits)

      had_after : IsHadFrom (contents after_it) (name_of text) t
      had_after = subst (λ (rs : List Record). IsHadFrom (contents rs) (name_of text) t) (sym (grown o same)) had

      file_of : (bytes : List ℕ) → StandsForAll call.old o.commits bytes → IsFileOf bytes after_it
      file_of bytes h = stands_file call.old (flat_map (λ (commit : List Record). commit) (take (length o.commits) o.commits)) bytes are h

      loaded_is : (By : List Record → Outcome → Type 0) (due : Outcome) → ((x : Outcome) → By after_it x → x ≡ due) → (bytes : List ℕ) → StandsForAll call.old o.commits bytes → (x : Outcome) → IsLoaded By bytes x → x ≡ due
      loaded_is By due each bytes h x (inl fails) = absurd (no_file bytes fails.0 after_it fails.1 (file_of bytes h))
      loaded_is By due each bytes h x (inr is) = each x (subst (λ (rs : List Record). By rs x) (one_file bytes is.0 after_it is.1 (file_of bytes h)) is.2)

      exported : (x : Outcome) → IsExportedBy true (name_text (name_of text)) after_it x → x ≡ without_commit (tree_printed t)
      exported x is = is.2 ∙ ap without_commit (had_after.exported is.0 is.1)

      verified : (x : Outcome) → IsVerifiedBy true (name_text (name_of text)) after_it x → x ≡ without_commit right_printed
      verified x is = is.2 ∙ ap without_commit (had_after.verified is.0 is.1)

      comes_back : ComesBack call o t text
      comes_back = record {
        named = (done.text, ap (λ (x : Outcome). x.text) same);
        again = written_reads_back t good taken.tree.rising;
        exact = λ s is written.
            let same : t ≡ s = one_tree call.input short t s taken.tree (subst (λ (x : List ℕ). IsTreeText x s) (sym written) is) in
            ap tree_text same ∙ sym written;
        had = had_after;
        exported = λ bytes h repository input moment x word is.
            loaded_is (IsExportedBy true (name_text (name_of text))) (without_commit (tree_printed t)) exported bytes h x
            (subst (λ (s : Option Command). IsSaidOutcome true s input moment bytes x) (says_export repository (name_of text) word (name-is text)) is);
        verified = λ bytes h repository input moment x word is.
            loaded_is (IsVerifiedBy true (name_text (name_of text))) (without_commit right_printed) verified bytes h x
            (subst (λ (s : Option Command). IsSaidOutcome true s input moment bytes x) (says_verify repository (name_of text) word (name-is text)) is);
      }

-- ---- an outcome of `checkin` with status 0

not_three : (n : ℕ) → n ≡ 3 → n ≡ 0 → ⊥
not_three n three none = omega (arith, three, none)

not_two : (n : ℕ) → n ≡ 2 → n ≡ 0 → ⊥
not_two n two none = omega (arith, two, none)

module _ (call : Call) (are : AreRecords call.old) (user : call.asked.user ≢ []) (comment : call.asked.comment ≢ []) (calendar : IsMoment call.moment)
    (o : Outcome) (done : o.status ≡ 0) (printed : Printed) (appended : List Record) (same : o ≡ with_commit printed appended) where
  abbrev Back : Type 0
  Back = (t : List TreeItem) × (over : Option (List ℕ)) × IsTakenOver call t over × ComesBackIf call o t over

  status : printed.status ≡ 0
  status = sym (ap (λ (x : Outcome). x.status) same) ∙ done

  by_refusal : (refusal : Printed) → refusal.status ≡ 3 → printed ≡ refusal → ⊥
  by_refusal refusal three is = not_three printed.status (ap (λ (p : Printed). p.status) is ∙ three) status

  by_result : length call.input < 2 ^ 64 → (t : List TreeItem) (over : Option (List ℕ)) (taken : IsTakenOver call t over) (result : Result Taken Printed)
      → Arrive (Some (put_receipt call.moment)) (none_taken (opened call.old 0 true)) (arrivals_of t (text_over call t over)) result
      → printed ≡ checked_in (text_over call t over) result → appended ≡ appended_by call.old result → ComesBackIf call o t over
  by_result short t over taken (Ok all) arrive line more = λ out own.
      comes_back call are user comment calendar short t over taken out own all arrive o (same ∙ (λ i. with_commit (line i) (more i)))
  by_result short t over taken (Err refusal) arrive line more =
      absurd (by_refusal refusal (refused_files (Some (put_receipt call.moment)) (arrivals_of t (text_over call t over)) (none_taken (opened call.old 0 true)) refusal arrive) line)

  by_parent : length call.input < 2 ^ 64 → (t : List TreeItem) (items : List Item) → IsTreeText call.input t → AreItems (contents call.old).held items → (p : Result (Option (List ℕ)) Refused) → parent_of (contents call.old) items call.asked.parent ≡ p
      → IsOver t call.asked.user call.asked.comment call.moment call.old printed appended p → Back
  by_parent short t items tree each (Ok over) e h =
      let taken : IsTakenOver call t over = record { tree = tree; items = items; each = each; parent = e } in
      (t, over, taken, by_result short t over taken h.0 h.1 h.2 h.3)
  by_parent short t items tree each (Err refused) e h = absurd (by_refusal (printing.refused _) refl h.0)

  by_read : length call.input < 2 ^ 64 → IsCheckinRead call.asked.parent call.asked.user call.asked.comment call.input call.moment call.old printed appended → Back
  by_read short (inl h) = absurd (by_refusal (bad_item h.0) refl h.2)
  by_read short (inr h) = by_parent short h.0 h.2.0 h.1 h.2.1 (parent_of (contents call.old) h.2.0 call.asked.parent) refl h.2.2

  by_length : (long : Bool) → nat_lt (2 ^ 27) (length call.input) ≡ long → MatchBool long ((printed ≡ printing.too_long) × (appended ≡ [])) (IsCheckinRead call.asked.parent call.asked.user call.asked.comment call.input call.moment call.old printed appended) → Back
  by_length true e h = absurd (by_refusal printing.too_long refl h.0)
  by_length false e h = by_read (short_of (length call.input) e) h

-- the words say a user and a comment
said_some : (words : List (List ℕ)) (a : NewCheckin) → said words ≡ Some (asked_for a) → (a.user ≢ []) × (a.comment ≢ [])
said_some words a is = by (words_in words) refl is
  where
    by : (o : Option Words) → words_in words ≡ o → option_map (λ (w : Words). w.command) o ≡ Some (asked_for a) → (a.user ≢ []) × (a.comment ≢ [])
    by None e h = absurd cc
    by (Some w) e h = let same : w.command ≡ asked_for a = cc in subst IsObeyable same (obeyable words w e)

pub tree_comes_back : TreeComesBack
tree_comes_back honest words call bytes o says calendar file outcome done =
    by (subst (λ (s : Option Command). IsSaidOutcome honest s call.input call.moment bytes o) says outcome)
  where
    by : IsLoaded (IsCheckinOf call.asked.parent call.asked.user call.asked.comment call.input call.moment) bytes o
        → (t : List TreeItem) × (over : Option (List ℕ)) × IsTakenOver call t over × ComesBackIf call o t over
    by (inl h) = absurd (not_two o.status (ap (λ (x : Outcome). x.status) h.2) done)
    by (inr h) =
        let some = said_some words call.asked says in
        let old : h.0 ≡ call.old = one_file bytes h.0 call.old h.1 file in
        let is : IsCheckinOf call.asked.parent call.asked.user call.asked.comment call.input call.moment call.old o =
        subst (λ (rs : List Record). IsCheckinOf call.asked.parent call.asked.user call.asked.comment call.input call.moment rs o) old h.2 in
        by_length call file.fit some.0 some.1 calendar o done is.0 is.1 is.3 (nat_lt (2 ^ 27) (length call.input)) refl is.2
