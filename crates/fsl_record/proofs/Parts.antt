-- A Blob with a receipt, part by part: its bytes fail in one way at most, and don't fail where they read.
use Rattle.std.proofs.Common.{◌≡◌, inl, inr, ℕ, ◌<◌, ◌≤◌, ◌^◌, Bool, true, false, List, ◌∷◌, ◌++◌, length, Some, refl, sym, ◌∙◌, ap, subst, arith, append_assoc, length-append}
use Rattle.std.specs.Prelude.{if◌then◌else◌}
use Rattle.std.specs.Int.{to_be_bytes, w32, w64}
use Rattle.fsl_text.specs.Limits.{most_of_artifact}
use Rattle.fsl_name.specs.Name.{name_of}
use Rattle.fsl_record.specs.Receipts.{Brought, receipt_bytes, last_moment, most_of_login}
use Rattle.fsl_record.specs.Brought.{FailsIn, IsPrivateRead, PrivateFails, IsPieceRead, PieceFails, IsNumberRead, NumberFails, IsLoginLengthRead, LoginLengthFails, NameFails, ContentFails, ReceiptFails, IsReceiptRead, BroughtFails}
use Rattle.fsl_record.specs.declared.Record.TheVariants as record_of
use Rattle.fsl_record.specs.declared.RecordFault.{RecordFault}
use Rattle.fsl_record.specs.declared.RecordFault.TheVariants as record_fault
use Rattle.fsl_record.specs.Records.{IsFit}
use Rattle.fsl_record.proofs.Unique.{append_same, length_same, login_length_same, first_same, rest_same}

-- a part reads in one way at most, fails in one way at most, and not both
record PartLaws {X : Type 0} (Fails : RecordFault → Type 0) (Reads : X → List ℕ → Type 0) : Type 0 where
  one : (f g : RecordFault) → Fails f → Fails g → f ≡ g
  apart : (f : RecordFault) (x : X) (r : List ℕ) → Fails f → Reads x r → ⊥
  same : (x y : X) (r s : List ℕ) → Reads x r → Reads y s → (x ≡ y) × (r ≡ s)

module _ {X : Type 0} (Fails : RecordFault → Type 0) (Reads : X → List ℕ → Type 0) (Behind : X → List ℕ → RecordFault → Type 0) (laws : PartLaws Fails Reads) where
  -- behind a part that reads
  then_behind : (f : RecordFault) (x : X) (r : List ℕ) → Reads x r → FailsIn Fails Reads Behind f → Behind x r f
  then_behind f x r reads (inl fails) = absurd (laws.apart f x r fails reads)
  then_behind f x r reads (inr (y, s, also, behind)) =
      let same = laws.same y x s r also reads in
      subst (λ (l : List ℕ). Behind x l f) same.1 (subst (λ (z : X). Behind z s f) same.0 behind)

  then_one : ((x : X) (r : List ℕ) → Reads x r → (f g : RecordFault) → Behind x r f → Behind x r g → f ≡ g) → (f g : RecordFault) → FailsIn Fails Reads Behind f → FailsIn Fails Reads Behind g → f ≡ g
  then_one behind f g (inl a) (inl b) = laws.one f g a b
  then_one behind f g (inl a) (inr (y, s, reads, b)) = absurd (laws.apart f y s a reads)
  then_one behind f g (inr (x, r, reads, a)) b = behind x r reads f g a (then_behind g x r reads b)

-- ---- the parts

-- the byte of whether a blob is private
abbrev flag_of : Bool → ℕ
flag_of p = if p then 1 else 0

private_laws : (bytes : List ℕ) → PartLaws (PrivateFails bytes) (IsPrivateRead bytes)
private_laws bytes = record { one = one; apart = apart; same = same }
  where
    one : (f g : RecordFault) → PrivateFails bytes f → PrivateFails bytes g → f ≡ g
    one record_fault.Short record_fault.Short a b = refl
    one record_fault.Short (record_fault.Kind found) a b = absurd (let e = sym a ∙ b.1 in cc)
    one (record_fault.Kind found) record_fault.Short a b = absurd (let e = sym b ∙ a.1 in cc)
    one (record_fault.Kind found) (record_fault.Kind also) a b = ap (λ (n : ℕ). record_fault.Kind n) (first_same _ _ _ _ (sym a.1 ∙ b.1))
    one record_fault.Memory g a b = absurd a
    one (record_fault.Length found) g a b = absurd a
    one (record_fault.NameWrong kept found) g a b = absurd a
    one f record_fault.Memory a b = absurd b
    one f (record_fault.Length found) a b = absurd b
    one f (record_fault.NameWrong kept found) a b = absurd b

    small : (p : Bool) → flag_of p ≤ 1
    small true = omega arith
    small false = omega arith

    apart : (f : RecordFault) (p : Bool) (r : List ℕ) → PrivateFails bytes f → IsPrivateRead bytes p r → ⊥
    apart record_fault.Short p r fails read = absurd (let e = sym fails ∙ read.layout in cc)
    apart (record_fault.Kind found) p r fails read = omega (arith, fails.2, first_same _ _ _ _ (sym fails.1 ∙ read.layout), small p)
    apart record_fault.Memory p r fails read = fails
    apart (record_fault.Length found) p r fails read = fails
    apart (record_fault.NameWrong kept found) p r fails read = fails

    flags : (p q : Bool) → flag_of p ≡ flag_of q → p ≡ q
    flags true true e = refl
    flags false false e = refl
    flags true false e = absurd (omega (arith, e))
    flags false true e = absurd (omega (arith, e))

    same : (p q : Bool) (r s : List ℕ) → IsPrivateRead bytes p r → IsPrivateRead bytes q s → (p ≡ q) × (r ≡ s)
    same p q r s a b = let e = sym a.layout ∙ b.layout in (flags p q (first_same _ _ _ _ e), rest_same _ _ _ _ e)

piece_laws : (size : ℕ) (bytes : List ℕ) → PartLaws (PieceFails size bytes) (IsPieceRead size bytes)
piece_laws size bytes = record {
  one = λ f g a b. a.0 ∙ sym b.0;
  apart = λ f x r a b. omega (arith, a.1, ap length b.layout, length-append x r, b.sized);
  same = λ x y r s a b. let both = append_same x y r s (a.sized ∙ sym b.sized) (sym a.layout ∙ b.layout) in (both.piece, both.rest);
}

eight_long : (n : ℕ) → length (to_be_bytes w64 n) ≡ 8
eight_long n = refl

four_long : (n : ℕ) → length (to_be_bytes w32 n) ≡ 4
four_long n = refl

-- two numbers of 8 bytes at the front of the same bytes
same_numbers : (bytes : List ℕ) (m n : ℕ) (r s : List ℕ) → m < 2 ^ 64 → n < 2 ^ 64 → bytes ≡ to_be_bytes w64 m ++ r → bytes ≡ to_be_bytes w64 n ++ s → (m ≡ n) × (r ≡ s)
same_numbers bytes m n r s m_fits n_fits a b =
    let both = append_same (to_be_bytes w64 m) (to_be_bytes w64 n) r s (eight_long m ∙ sym (eight_long n)) (sym a ∙ b) in
    (length_same m n m_fits n_fits both.piece, both.rest)

same_lengths : (bytes : List ℕ) (m n : ℕ) (r s : List ℕ) → m < 2 ^ 32 → n < 2 ^ 32 → bytes ≡ to_be_bytes w32 m ++ r → bytes ≡ to_be_bytes w32 n ++ s → (m ≡ n) × (r ≡ s)
same_lengths bytes m n r s m_fits n_fits a b =
    let both = append_same (to_be_bytes w32 m) (to_be_bytes w32 n) r s (four_long m ∙ sym (four_long n)) (sym a ∙ b) in
    (login_length_same m n m_fits n_fits both.piece, both.rest)

number_laws : (most : ℕ) (bytes : List ℕ) → PartLaws (NumberFails most bytes) (IsNumberRead most bytes)
number_laws most bytes = record { one = one; apart = apart; same = λ x y r s a b. same_numbers bytes x y r s a.fits b.fits a.layout b.layout }
  where
    short : (n : ℕ) (r : List ℕ) → length bytes < 8 → bytes ≡ to_be_bytes w64 n ++ r → ⊥
    short n r few is = omega (arith, few, ap length is, length-append (to_be_bytes w64 n) r, eight_long n)

    one : (f g : RecordFault) → NumberFails most bytes f → NumberFails most bytes g → f ≡ g
    one f g (inl a) (inl b) = a.0 ∙ sym b.0
    one f g (inl a) (inr b) = absurd (short b.0 b.1 a.1 b.3)
    one f g (inr a) (inl b) = absurd (short a.0 a.1 b.1 a.3)
    one f g (inr a) (inr b) = a.2 ∙ ap (λ (k : ℕ). record_fault.Length k) (same_numbers bytes a.0 b.0 a.1 b.1 a.5 b.5 a.3 b.3).0 ∙ sym b.2

    apart : (f : RecordFault) (x : ℕ) (r : List ℕ) → NumberFails most bytes f → IsNumberRead most bytes x r → ⊥
    apart f x r (inl a) b = short x r a.1 b.layout
    apart f x r (inr a) b = omega (arith, a.4, b.few, (same_numbers bytes a.0 x a.1 r a.5 b.fits a.3 b.layout).0)

login_length_laws : (bytes : List ℕ) → PartLaws (LoginLengthFails bytes) (IsLoginLengthRead bytes)
login_length_laws bytes = record { one = one; apart = apart; same = λ x y r s a b. same_lengths bytes x y r s (omega (arith, a.few)) (omega (arith, b.few)) a.layout b.layout }
  where
    short : (n : ℕ) (r : List ℕ) → length bytes < 4 → bytes ≡ to_be_bytes w32 n ++ r → ⊥
    short n r few is = omega (arith, few, ap length is, length-append (to_be_bytes w32 n) r, four_long n)

    one : (f g : RecordFault) → LoginLengthFails bytes f → LoginLengthFails bytes g → f ≡ g
    one f g (inl a) (inl b) = a.0 ∙ sym b.0
    one f g (inl a) (inr b) = absurd (short b.0 b.1 a.1 b.3)
    one f g (inr a) (inl b) = absurd (short a.0 a.1 b.1 a.3)
    one f g (inr a) (inr b) = a.2 ∙ ap (λ (k : ℕ). record_fault.Length k) (same_lengths bytes a.0 b.0 a.1 b.1 a.5 b.5 a.3 b.3).0 ∙ sym b.2

    apart : (f : RecordFault) (x : ℕ) (r : List ℕ) → LoginLengthFails bytes f → IsLoginLengthRead bytes x r → ⊥
    apart f x r (inl a) b = short x r a.1 b.layout
    apart f x r (inr a) b = omega (arith, a.4, b.few, (same_lengths bytes a.0 x a.1 r a.5 (omega (arith, b.few)) a.3 b.layout).0)

-- ---- a receipt

-- what stands behind the login's length
abbrev LoginFails : ℕ → List ℕ → RecordFault → Type 0
LoginFails size login = PieceFails size login

abbrev LoginPart : ℕ → List ℕ → RecordFault → Type 0
LoginPart moment behind = FailsIn (LoginLengthFails behind) (IsLoginLengthRead behind) LoginFails

moment_read : (bytes : List ℕ) (r : Brought) (rest : List ℕ) → IsReceiptRead bytes r rest → IsNumberRead last_moment bytes r.moment (to_be_bytes w32 (length r.login) ++ (r.login ++ rest))
moment_read bytes r rest read = record {
  layout = read.layout ∙ append_assoc (to_be_bytes w64 r.moment ++ to_be_bytes w32 (length r.login)) r.login rest ∙ append_assoc (to_be_bytes w64 r.moment) (to_be_bytes w32 (length r.login)) (r.login ++ rest);
  few = omega (arith, read.fit.1);
  fits = omega (arith, read.fit.1);
}

length_read : (r : Brought) (rest : List ℕ) → length r.login ≤ most_of_login → IsLoginLengthRead (to_be_bytes w32 (length r.login) ++ (r.login ++ rest)) (length r.login) (r.login ++ rest)
length_read r rest few = record { layout = refl; few = few }

login_one : (x : ℕ) (r : List ℕ) (f g : RecordFault) → LoginPart x r f → LoginPart x r g → f ≡ g
login_one x r f g a b = then_one (LoginLengthFails r) (IsLoginLengthRead r) LoginFails (login_length_laws r) (λ size login _ h k c d. c.0 ∙ sym d.0) f g a b

receipt_laws : (bytes : List ℕ) → PartLaws (ReceiptFails bytes) (IsReceiptRead bytes)
receipt_laws bytes = record { one = one; apart = apart; same = same }
  where
    one : (f g : RecordFault) → ReceiptFails bytes f → ReceiptFails bytes g → f ≡ g
    one f g a b = then_one (NumberFails last_moment bytes) (IsNumberRead last_moment bytes) LoginPart (number_laws last_moment bytes) (λ x r _ h k c d. login_one x r h k c d) f g a b

    apart : (f : RecordFault) (x : Brought) (r : List ℕ) → ReceiptFails bytes f → IsReceiptRead bytes x r → ⊥
    apart f x r fails read =
        let behind = then_behind (NumberFails last_moment bytes) (IsNumberRead last_moment bytes) LoginPart (number_laws last_moment bytes) f _ _ (moment_read bytes x r read) fails in
        let sized = to_be_bytes w32 (length x.login) ++ (x.login ++ r) in
        let login = then_behind (LoginLengthFails sized) (IsLoginLengthRead sized) LoginFails (login_length_laws sized) f _ _ (length_read x r read.fit.0) behind in
        omega (arith, login.1, length-append x.login r)

    same : (x y : Brought) (r s : List ℕ) → IsReceiptRead bytes x r → IsReceiptRead bytes y s → (x ≡ y) × (r ≡ s)
    same x y r s a b =
        let one = moment_read bytes x r a in
        let two = moment_read bytes y s b in
        let moments = same_numbers bytes x.moment y.moment _ _ one.fits two.fits one.layout two.layout in
        let lengths = same_lengths (to_be_bytes w32 (length x.login) ++ (x.login ++ r)) (length x.login) (length y.login) (x.login ++ r) (y.login ++ s) (omega (arith, a.fit.0)) (omega (arith, b.fit.0)) refl moments.1 in
        let logins = append_same x.login y.login r s lengths.0 lengths.1 in
        ((λ i. record { login = logins.piece i; moment = moments.0 i }), logins.rest)

-- ---- the whole

abbrev NamePart : List ℕ → ℕ → List ℕ → RecordFault → Type 0
NamePart name size behind = FailsIn (PieceFails size behind) (IsPieceRead size behind) (λ content _. NameFails name content)

content_one : (name bytes : List ℕ) (f g : RecordFault) → ContentFails name bytes f → ContentFails name bytes g → f ≡ g
content_one name bytes f g a b =
    then_one (NumberFails most_of_artifact bytes) (IsNumberRead most_of_artifact bytes) (NamePart name) (number_laws most_of_artifact bytes)
    (λ size behind _ h k c d. then_one (PieceFails size behind) (IsPieceRead size behind) (λ content _. NameFails name content) (piece_laws size behind) (λ content _ _ m n x y. x.0 ∙ sym y.0) h k c d) f g a b

content_well : (name content rest : List ℕ) (f : RecordFault) → name ≡ name_of content → length content ≤ most_of_artifact → ContentFails name (to_be_bytes w64 (length content) ++ (content ++ rest)) f → ⊥
content_well name content rest f named few fails =
    let bytes = to_be_bytes w64 (length content) ++ (content ++ rest) in
    let sized : IsNumberRead most_of_artifact bytes (length content) (content ++ rest) = record { layout = refl; few = few; fits = omega (arith, few) } in
    let behind = then_behind (NumberFails most_of_artifact bytes) (IsNumberRead most_of_artifact bytes) (NamePart name) (number_laws most_of_artifact bytes) f (length content) (content ++ rest) sized fails in
    let whole : IsPieceRead (length content) (content ++ rest) content rest = record { layout = refl; sized = refl } in
    let wrong = then_behind (PieceFails (length content) (content ++ rest)) (IsPieceRead (length content) (content ++ rest)) (λ c _. NameFails name c) (piece_laws (length content) (content ++ rest)) f content rest whole behind in
    wrong.1 named

abbrev StampPart : List ℕ → List ℕ → RecordFault → Type 0
StampPart name stamped = FailsIn (ReceiptFails stamped) (IsReceiptRead stamped) (λ _ behind. ContentFails name behind)

abbrev NamedPart : Bool → List ℕ → RecordFault → Type 0
NamedPart _ named = FailsIn (PieceFails 20 named) (IsPieceRead 20 named) StampPart

stamp_one : (name stamped : List ℕ) (f g : RecordFault) → StampPart name stamped f → StampPart name stamped g → f ≡ g
stamp_one name stamped f g a b =
    then_one (ReceiptFails stamped) (IsReceiptRead stamped) (λ _ behind. ContentFails name behind) (receipt_laws stamped) (λ _ behind _ h k c d. content_one name behind h k c d) f g a b

named_one : (p : Bool) (named : List ℕ) (f g : RecordFault) → NamedPart p named f → NamedPart p named g → f ≡ g
named_one p named f g a b = then_one (PieceFails 20 named) (IsPieceRead 20 named) StampPart (piece_laws 20 named) (λ name stamped _ h k c d. stamp_one name stamped h k c d) f g a b

pub brought_one : (bytes : List ℕ) (f g : RecordFault) → BroughtFails bytes f → BroughtFails bytes g → f ≡ g
brought_one bytes f g a b = then_one (PrivateFails bytes) (IsPrivateRead bytes) NamedPart (private_laws bytes) (λ p named _ h k c d. named_one p named h k c d) f g a b

pub brought_well : (p : Bool) (n : List ℕ) (r : Brought) (b rest : List ℕ) (f : RecordFault) → IsFit (record_of.Blob p n (Some r) b)
    → BroughtFails ((if p then 1 else 0) ∷ (n ++ (receipt_bytes r ++ (to_be_bytes w64 (length b) ++ (b ++ rest))))) f → ⊥
brought_well p n r b rest f fit fails =
    let sized = to_be_bytes w64 (length b) ++ (b ++ rest) in
    let stamped = receipt_bytes r ++ sized in
    let named = n ++ stamped in
    let bytes = (if p then 1 else 0) ∷ named in
    let at_flag : IsPrivateRead bytes p named = record { layout = refl } in
    let one = then_behind (PrivateFails bytes) (IsPrivateRead bytes) NamedPart (private_laws bytes) f p named at_flag fails in
    let at_name : IsPieceRead 20 named n stamped = record { layout = refl; sized = fit.0 } in
    let two = then_behind (PieceFails 20 named) (IsPieceRead 20 named) StampPart (piece_laws 20 named) f n stamped at_name one in
    let at_stamp : IsReceiptRead stamped r sized = record { layout = refl; fit = fit.2 } in
    let three = then_behind (ReceiptFails stamped) (IsReceiptRead stamped) (λ _ behind. ContentFails n behind) (receipt_laws stamped) f r sized at_stamp two in
    content_well n b rest f fit.1.0 fit.1.1 three
