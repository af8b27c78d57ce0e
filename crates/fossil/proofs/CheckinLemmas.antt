-- What `checkin` appended, by what it read.
use Rattle.std.proofs.Common.{◌≡◌, inl, inr, ℕ, ◌^◌, Bool, true, false, List, [], ◌∷◌, ◌++◌, length, codes, Option, Some, None, Result, Ok, Err, is_some, refl, sym, ap, subst, ◌∙◌}
use Rattle.std.specs.Prelude.{◌≢◌, drop, nat_lt, MatchBool}
use Rattle.std.specs.List.{AllZip, list_all}
use Rattle.std.proofs.lemmas.Bool.{and_from}
use Rattle.std.proofs.lemmas.List.{append-nil}
use Rattle.fsl_text.specs.Paths.{path_ok}
use Rattle.fsl_name.specs.Name.{name_of}
use Rattle.fsl_record.specs.Receipts.{Brought}
use Rattle.fsl_record.specs.declared.Record.{Record}
use Rattle.fsl_journal.specs.File.{IsFileOf}
use Rattle.fsl_journal.proofs.Unique.{one_file}
use Rattle.fsl_blobs.specs.Fold.{HeldSet, contents}
use Rattle.fsl_blobs.specs.declared.Found.{Found}
use Rattle.fsl_blobs.specs.declared.Found.TheVariants as found_as
use Rattle.fsl_blobs.specs.Held.{found}
use Rattle.fsl_files.specs.declared.FileRow.{FileRow}
use Rattle.fsl_files.specs.declared.Listing.{Listing}
use Rattle.fsl_files.specs.declared.Listing.TheVariants as listing
use Rattle.fsl_files.specs.Files.{files}
use Rattle.fsl_manifest.specs.declared.Manifest.{Manifest}
use Rattle.fsl_cross.specs.declared.Item.{Item}
use Rattle.fsl_repo.specs.Machine.{AreItems}
use Rattle.fsl_repo.specs.Whole.{Whole, opened}
use Rattle.fsl_repo.proofs.ItemLemmas.{items_rise}
use Rattle.fsl_repo.proofs.OneList.{are_one_list}
use Rattle.fsl_query.specs.declared.Refused.{Refused}
use Rattle.fsl_query.specs.declared.Refused.TheVariants as refused_as
use Rattle.fsl_query.specs.Refusals.{refusal_text}
use Rattle.fsl_query.specs.Reports.{by_found}
use Rattle.fsl_checkin.specs.declared.types.TreeItem.{TreeItem}
use Rattle.fsl_checkin.specs.Trees.{IsBadItem, IsItemText, IsTreeText, paths}
use Rattle.fsl_checkin.specs.Exports.{checkin_at, checkins}
use Rattle.fsl_checkin.proofs.FilesLemmas.{baseline_checkin, known_checkin, not_checkin}
use Rattle.fsl_checkin.proofs.OneLemmas.{bad_is_no_tree}
use Rattle.fossil.specs.declared.commands.checkin.NewCheckin.{NewCheckin}
use Rattle.fossil.specs.declared.commands.checkin.Arriving.{Arriving}
use Rattle.fossil.specs.Printed.{Printed, name_line}
use Rattle.fossil.specs.Printed as printing
use Rattle.fossil.specs.Arrivals.{Taken, none_taken, Arrive}
use Rattle.fossil.specs.declared.reading.message.MessageFile.{MessageFile}
use Rattle.fossil.specs.Put.{put_receipt}
use Rattle.fossil.specs.Checkins.{IsCheckinRead, IsOver, arrivals_of, bad_item, checkin_text, parent_of}
use Rattle.fossil.specs.CheckinCall.{AreArriving, IsParent, asked_for}
use Rattle.fossil.specs.Run.{Input, Clock, IsTimed, TakesMoment}
use Rattle.fossil.specs.Acts.{Loaded, loaded_of, IsInput}
use Rattle.fossil.specs.Taking.{AreAllTaken, IsPutReceipt}
use Rattle.fossil.proofs.ArrivalLemmas.{refused_files}
use Rattle.fossil.proofs.ActLemmas.{still, none_due}
use Rattle.fossil.proofs.AppendLemmas.{IsPlain, IsAppended}
use Rattle.fossil.proofs.FileLemmas.{Loads}
use Rattle.fossil.proofs.OneCheckin.{short_of}

pub checkin_loads : (a : NewCheckin) → Loads (Some (asked_for a))
checkin_loads a = record { opened = refl; begun = λ begun. cc; old = λ old bytes are. are; refused = λ bytes refused. refused; fails = λ honest read moment bytes at fails. inl (at, fails, refl); alone = refl; due = λ read bytes due. (due.0, due.1) }

-- ---- trees

goods : (parts : List (List ℕ)) (t : List TreeItem) → AllZip IsItemText parts t → list_all path_ok (paths t) ≡ true
goods [] [] each = refl
goods [] (item ∷ t) each = absurd each
goods (part ∷ parts) [] each = absurd each
goods (part ∷ parts) (item ∷ t) each = and_from (path_ok item.path) (list_all path_ok (paths t)) (each.0).good (goods parts t each.1)

-- the paths of a tree are good
pub good_tree : (text : List ℕ) (t : List TreeItem) → IsTreeText text t → list_all path_ok (paths t) ≡ true
good_tree text t is = goods is.parts t is.each

-- ---- parents

is_there : (o : Option Manifest) → o ≢ None → true ≡ is_some o
is_there None some = absurd (some refl)
is_there (Some m) some = refl

module _ (items : List Item) (name : List ℕ) (held : HeldSet) (each : AreItems held items) where
  pub is_none : (l : Listing) → l ≡ files (checkins items) name → l ≡ listing.NotCheckin → false ≡ is_some (checkin_at items name)
  is_none l is e = ap is_some (sym (not_checkin items (items_rise held items each) name (sym is ∙ e)))

  pub is_based : (l : Listing) → l ≡ files (checkins items) name → l ≡ listing.NoBaseline → true ≡ is_some (checkin_at items name)
  is_based l is e = is_there (checkin_at items name) (baseline_checkin items (items_rise held items each) name (sym is ∙ e))

  pub is_known : (rows : List FileRow) (l : Listing) → l ≡ files (checkins items) name → l ≡ listing.Known rows → true ≡ is_some (checkin_at items name)
  is_known rows l is e = is_there (checkin_at items name) (known_checkin items (items_rise held items each) name rows (sym is ∙ e))

-- what a prefix finds
pub by_one : {X : Type 0} (prefix : List ℕ) (f : List ℕ → Result X Refused) (o : Found) (name : List ℕ) → Ok name ≡ by_found prefix (λ (n : List ℕ). Ok n) o → f name ≡ by_found prefix f o
by_one prefix f found_as.Nothing name e = absurd cc
by_one prefix f found_as.Several name e = absurd cc
by_one prefix f (found_as.One n) name e = let same : name ≡ n = cc in ap f same

pub by_none : {X : Type 0} (prefix : List ℕ) (f : List ℕ → Result X Refused) (o : Found) (refused : Refused) → Err refused ≡ by_found prefix (λ (n : List ℕ). Ok n) o → Err refused ≡ by_found prefix f o
by_none prefix f found_as.Nothing refused e = let same : refused ≡ refused_as.NoArtifact prefix = cc in ap Err same
by_none prefix f found_as.Several refused e = let same : refused ≡ refused_as.SeveralArtifacts prefix = cc in ap Err same
by_none prefix f (found_as.One n) refused e = absurd cc

-- ---- what is appended

module _ (a : NewCheckin) where
  -- the moment of a tree and a parent that aren't refused was taken
  pub checkin_timed : (clock : Clock) (receipt : Brought) (answered : Bool) (text bytes : List ℕ) (records : List Record) (t : List TreeItem) (items : List Item) (over : Option (List ℕ))
      → IsPutReceipt clock.before clock.after receipt → IsFileOf bytes records → nat_lt (2 ^ 27) (length text) ≡ false → IsTreeText text t
      → AreItems (contents records).held items → parent_of (contents records) items a.parent ≡ Ok over → IsTimed (Some (asked_for a)) clock answered text receipt.moment bytes
  checkin_timed clock receipt answered text bytes records t items over taken is short tree each found = inl ((records, is, (short, (t, tree), (items, over, each, found))), (taken.is_moment, taken.answered))

  module _ (input : Input) (clock : Clock) (moment : ℕ) (bytes : List ℕ) (before after : Loaded) (answer : Printed) (appended : List Record)
      (records : after.journal.records ≡ before.journal.records ++ appended) (stable : after.journal.stable ≡ before.journal.stable) where
    -- by a text that was read
    by_text : (text : List ℕ) → IsInput input (Some text) → IsCheckinRead a.parent a.user a.comment text moment before.journal.records answer appended → IsPlain answer appended
        → (IsFileOf bytes before.journal.records → IsTimed (Some (asked_for a)) clock true text moment bytes) → IsAppended (Some (asked_for a)) input clock bytes before after answer
    by_text text is read plain timed = record {
      read = text;
      moment = moment;
      appended = appended;
      told = is.0;
      outcome = λ file honest. inr (
        before.journal.records,
        file,
        (answer, appended, subst (λ (long : Bool). MatchBool long ((answer ≡ printing.too_long) × (appended ≡ [])) (IsCheckinRead a.parent a.user a.comment text moment before.journal.records answer appended)) (sym is.2) read, refl),
      );
      timed = timed;
      plain = plain;
      records = records;
      stable = stable;
      end = λ z reads. is.1;
      input_steady = is.3;
    }

  module _ {D : Type 0} (input : Input) (clock : Clock) (receipt : Brought) (bytes text : List ℕ) (before : Whole D) (t : List TreeItem) (over : Option (List ℕ)) (made : Arriving) (taken : IsPutReceipt clock.before clock.after receipt)
      (is : IsInput input (Some text)) (tree : IsTreeText text t) (each : AreItems (contents before.seen.state.records).held before.seen.items) (found : IsParent a before over) (are : AreArriving a t over receipt.moment made) where
    abbrev old : List Record
    old = before.seen.state.records

    abbrev due_text : List ℕ
    due_text = checkin_text t over a.user a.comment receipt.moment

    arrived : (result : Result Taken Printed) → Arrive (Some receipt) (none_taken (opened old 0 true)) made.files result → Arrive (Some (put_receipt receipt.moment)) (none_taken (opened old 0 true)) (arrivals_of t due_text) result
    arrived result h =
        subst (λ (fs : List MessageFile). Arrive (Some (put_receipt receipt.moment)) (none_taken (opened old 0 true)) fs result) are.files
        (subst (λ (r : Brought). Arrive (Some r) (none_taken (opened old 0 true)) made.files result) taken.put h)

    timed : IsFileOf bytes old → IsTimed (Some (asked_for a)) clock true text receipt.moment bytes
    timed file = checkin_timed clock receipt true text bytes old t before.seen.items over taken file is.2 tree each found

    -- all arrived
    pub checked_appended : (after : Whole D) (lines all : List ℕ) → AreAllTaken receipt made.files before.seen.state after.seen.state lines → all ≡ lines ++ name_line (codes "checkin") made.name
        → IsAppended (Some (asked_for a)) input clock bytes (loaded_of before) (loaded_of after) (record { status = 0; text = all })
    checked_appended after lines all all_taken grown =
        by_text input clock receipt.moment bytes (loaded_of before) (loaded_of after) (record { status = 0; text = all }) (drop (length old) all_taken.taken.state.records) all_taken.records all_taken.committed text is
        (inr (t, tree, (before.seen.items, each, subst (λ (p : Result (Option (List ℕ)) Refused). IsOver t a.user a.comment receipt.moment old (record { status = 0; text = all }) (drop (length old) all_taken.taken.state.records) p) (sym found) over_is))) (inl refl) timed
      where
        printed_is : all ≡ all_taken.taken.text ++ name_line (codes "checkin") (name_of due_text)
        printed_is = grown ∙ (λ i. all_taken.printed i ++ name_line (codes "checkin") (are.name i))

        over_is : IsOver t a.user a.comment receipt.moment old (record { status = 0; text = all }) (drop (length old) all_taken.taken.state.records) (Ok over)
        over_is = (Ok all_taken.taken, arrived (Ok all_taken.taken) all_taken.arrive, (λ i. record { status = 0; text = printed_is i }), refl)

    -- an arrival is refused
    pub arrival_appended : (answer : Printed) → Arrive (Some receipt) (none_taken (opened old 0 true)) made.files (Err answer)
        → IsAppended (Some (asked_for a)) input clock bytes (loaded_of before) (loaded_of before) answer
    arrival_appended answer refused =
        by_text input clock receipt.moment bytes (loaded_of before) (loaded_of before) answer [] (sym (append-nil old)) refl text is
        (inr (t, tree, (before.seen.items, each, subst (λ (p : Result (Option (List ℕ)) Refused). IsOver t a.user a.comment receipt.moment old answer [] p) (sym found) (Err answer, arrived (Err answer) refused, refl, refl))))
        (inr (refused_files (Some receipt) made.files (none_taken (opened old 0 true)) answer refused, refl)) timed

  -- no moment is due, and nothing is appended
  module _ (input : Input) (clock : Option (List ℕ)) (bytes : List ℕ) (before : Loaded) (answer : Printed) where
    -- the parent is refused
    pub parent_appended : (text : List ℕ) (t : List TreeItem) (items : List Item) (refused : Refused) → IsInput input (Some text) → IsTreeText text t → AreItems (contents before.journal.records).held items
        → parent_of (contents before.journal.records) items a.parent ≡ Err refused → answer ≡ printing.refused (refusal_text refused) → IsAppended (Some (asked_for a)) input (still clock) bytes before before answer
    parent_appended text t items refused is tree each none same =
        by_text input (still clock) 0 bytes before before answer [] (sym (append-nil before.journal.records)) refl text is
        (inr (t, tree, (items, each, subst (λ (p : Result (Option (List ℕ)) Refused). IsOver t a.user a.comment 0 before.journal.records answer [] p) (sym none) (same, refl))))
        (inr (ap (λ (p : Printed). p.status) same, refl)) (λ file. none_due (Some (asked_for a)) clock true text 0 bytes (no_parent file))
      where
        no_parent : IsFileOf bytes before.journal.records → TakesMoment (Some (asked_for a)) text bytes → ⊥
        no_parent file due =
            let one : due.0 ≡ before.journal.records = one_file bytes due.0 before.journal.records due.1 file in
            let there = subst (λ (rs : List Record). AreItems (contents rs).held due.2.2.0) one due.2.2.2 in
            let list : due.2.2.0 ≡ items = are_one_list (contents before.journal.records).held due.2.2.0 items there each in
            let parent : parent_of (contents before.journal.records) items a.parent ≡ Ok due.2.2.1 =
            subst (λ (is : List Item). parent_of (contents before.journal.records) is a.parent ≡ Ok due.2.2.1) list (subst (λ (rs : List Record). parent_of (contents rs) due.2.2.0 a.parent ≡ Ok due.2.2.1) one due.2.2.3) in
            let no : Err refused ≡ Ok due.2.2.1 = sym none ∙ parent in cc

    -- an item is none
    pub item_appended : (text : List ℕ) (n : ℕ) → IsInput input (Some text) → IsBadItem text n → answer ≡ bad_item n → IsAppended (Some (asked_for a)) input (still clock) bytes before before answer
    item_appended text n is bad same =
        by_text input (still clock) 0 bytes before before answer [] (sym (append-nil before.journal.records)) refl text is (inl (n, bad, same, refl)) (inr (ap (λ (p : Printed). p.status) same, refl))
        (λ file. none_due (Some (asked_for a)) clock true text 0 bytes (λ due. bad_is_no_tree text (short_of (length text) is.2) n bad due.2.1.0 due.2.1.1))

    abbrev none : List Record
    none = []

    pub long_checkin : IsInput input None → answer ≡ printing.too_long → IsAppended (Some (asked_for a)) input (still clock) bytes before before answer
    long_checkin is long = record {
      read = is.0;
      moment = 0;
      appended = [];
      told = is.1;
      outcome = λ file honest. inr (
        before.journal.records,
        file,
        (answer, [], subst (λ (t : Bool). MatchBool t ((answer ≡ printing.too_long) × (none ≡ [])) (IsCheckinRead a.parent a.user a.comment is.0 0 before.journal.records answer none)) (sym is.2) (long, refl), refl),
      );
      timed = λ file. none_due (Some (asked_for a)) clock true is.0 0 bytes (λ due. let e = sym is.2 ∙ due.2.0 in cc);
      plain = inr (ap (λ (p : Printed). p.status) long, refl);
      records = sym (append-nil before.journal.records);
      stable = refl;
      end = λ z reads. absurd (let three = ap (λ (p : Printed). p.status) long in cc);
      input_steady = is.3;
    }
