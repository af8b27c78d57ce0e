-- A check-in has one outcome.
use Rattle.std.proofs.Common.{◌≡◌, inl, inr, ℕ, ◌^◌, ◌<◌, Bool, true, false, List, [], length, Option, Some, Result, Ok, Err, refl, sym, ap, subst, ◌∙◌, arith}
use Rattle.std.specs.Prelude.{nat_lt, MatchBool}
use Rattle.std.proofs.lemmas.Bool.Decides.{nat_tests}
use Rattle.fsl_record.specs.declared.Record.{Record}
use Rattle.fsl_blobs.specs.Fold.{contents}
use Rattle.fsl_cross.specs.declared.Item.{Item}
use Rattle.fsl_repo.specs.Whole.{opened}
use Rattle.fsl_repo.proofs.OneList.{are_one_list}
use Rattle.fsl_repo.proofs.SomeArrival.{some_items}
use Rattle.fsl_query.specs.declared.Refused.{Refused}
use Rattle.fsl_query.specs.Refusals.{refusal_text}
use Rattle.fsl_checkin.specs.declared.types.TreeItem.{TreeItem}
use Rattle.fsl_checkin.proofs.LawLemmas.{one_tree}
use Rattle.fsl_checkin.proofs.OneLemmas.{bad_is_no_tree, bad_is_one}
use Rattle.fsl_checkin.proofs.SomeTreeText.{IsSomeText, some_text}
use Rattle.fossil.specs.Arrivals.{none_taken}
use Rattle.fossil.specs.Printed.{Printed}
use Rattle.fossil.specs.Printed as printing
use Rattle.fossil.specs.Put.{appended_by, put_receipt}
use Rattle.fossil.specs.Checkins.{IsCheckedIn, IsCheckin, IsCheckinRead, IsOver, arrivals_of, bad_item, checked_in, checkin_text, parent_of}
use Rattle.fossil.proofs.ArrivalLemmas.{one_arrive, some_arrive}

-- an input that isn't too long
pub short_of : (n : ℕ) → nat_lt (2 ^ 27) n ≡ false → n < 2 ^ 64
short_of n h = grind (arith, nat_tests)

abbrev Same : Printed → Printed → List Record → List Record → Type 0
Same a b xs ys = (a ≡ b) × (xs ≡ ys)

module _ (prefix : Option (List ℕ)) (user comment : List ℕ) (moment : ℕ) (old : List Record) where
  module _ (a b : Printed) (xs ys : List Record) where
    same_in : (t : List TreeItem) (text : List ℕ) → IsCheckedIn t text moment old a xs → IsCheckedIn t text moment old b ys → Same a b xs ys
    same_in t text h k =
        let same = one_arrive (Some (put_receipt moment)) (arrivals_of t text) (none_taken (opened old 0 true)) h.0 k.0 h.1 k.1 in
        (h.2 ∙ ap (checked_in text) same ∙ sym k.2, h.3 ∙ ap (appended_by old) same ∙ sym k.3)

    same_over : (t : List TreeItem) (parent : Result (Option (List ℕ)) Refused) → IsOver t user comment moment old a xs parent → IsOver t user comment moment old b ys parent → Same a b xs ys
    same_over t (Ok over) h k = same_in t (checkin_text t over user comment moment) h k
    same_over t (Err refused) h k = (h.0 ∙ sym k.0, h.1 ∙ sym k.1)

    same_read : (input : List ℕ) → length input < 2 ^ 64 → IsCheckinRead prefix user comment input moment old a xs → IsCheckinRead prefix user comment input moment old b ys → Same a b xs ys
    same_read input lt (inl h) (inl k) = (h.2 ∙ ap bad_item (bad_is_one input lt h.0 k.0 h.1 k.1) ∙ sym k.2, h.3 ∙ sym k.3)
    same_read input lt (inl h) (inr k) = absurd (bad_is_no_tree input lt h.0 h.1 k.0 k.1)
    same_read input lt (inr h) (inl k) = absurd (bad_is_no_tree input lt k.0 k.1 h.0 h.1)
    same_read input lt (inr h) (inr k) =
        let items : h.2.0 ≡ k.2.0 = are_one_list (contents old).held h.2.0 k.2.0 h.2.1 k.2.1 in
        let tree : h.0 ≡ k.0 = one_tree input lt h.0 k.0 h.1 k.1 in
        same_over k.0 (parent_of (contents old) k.2.0 prefix)
        (subst (λ (t : List TreeItem). IsOver t user comment moment old a xs (parent_of (contents old) k.2.0 prefix)) tree
        (subst (λ (is : List Item). IsOver h.0 user comment moment old a xs (parent_of (contents old) is prefix)) items h.2.2)) k.2.2

    same_checkin : (input : List ℕ) (long : Bool) → nat_lt (2 ^ 27) (length input) ≡ long → MatchBool long ((a ≡ printing.too_long) × (xs ≡ [])) (IsCheckinRead prefix user comment input moment old a xs)
        → MatchBool long ((b ≡ printing.too_long) × (ys ≡ [])) (IsCheckinRead prefix user comment input moment old b ys) → Same a b xs ys
    same_checkin input true e h k = (h.0 ∙ sym k.0, h.1 ∙ sym k.1)
    same_checkin input false e h k = same_read input (short_of (length input) e) h k

    pub one_checkin : (input : List ℕ) → IsCheckin prefix user comment input moment old a xs → IsCheckin prefix user comment input moment old b ys → Same a b xs ys
    one_checkin input h k = same_checkin input (nat_lt (2 ^ 27) (length input)) refl h k

  -- ---- there is one

  some_over : (t : List TreeItem) (parent : Result (Option (List ℕ)) Refused) → (a : Printed) × (xs : List Record) × IsOver t user comment moment old a xs parent
  some_over t (Ok over) =
      let text = checkin_text t over user comment moment in
      let result = some_arrive (Some (put_receipt moment)) (arrivals_of t text) (none_taken (opened old 0 true)) in
      (checked_in text result.0, appended_by old result.0, (result.0, result.1, refl, refl))
  some_over t (Err refused) = (printing.refused (refusal_text refused), [], (refl, refl))

  some_read : (input : List ℕ) → IsSomeText input → (a : Printed) × (xs : List Record) × IsCheckinRead prefix user comment input moment old a xs
  some_read input (inl h) =
      let i = some_items (contents old).held in
      let o = some_over h.0 (parent_of (contents old) i.0 prefix) in
      (o.0, o.1, inr (h.0, h.1, (i.0, i.1, o.2)))
  some_read input (inr h) = (bad_item h.0, [], inl (h.0, h.1, refl, refl))

  some_by : (input : List ℕ) (long : Bool) → nat_lt (2 ^ 27) (length input) ≡ long → (a : Printed) × (xs : List Record) × MatchBool long ((a ≡ printing.too_long) × (xs ≡ [])) (IsCheckinRead prefix user comment input moment old a xs)
  some_by input true e = (printing.too_long, [], (refl, refl))
  some_by input false e = some_read input (some_text input (short_of (length input) e))

  pub some_checkin : (input : List ℕ) → (a : Printed) × (xs : List Record) × IsCheckin prefix user comment input moment old a xs
  some_checkin input = some_by input (nat_lt (2 ^ 27) (length input)) refl
