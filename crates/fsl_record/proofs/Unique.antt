-- Bytes are the records of one list at most, and behind fit records the rest are records.
use Rattle.std.proofs.Common.{◌≡◌, ◌≢◌, ℕ, ◌<◌, ◌^◌, List, [], ◌∷◌, ◌++◌, length, get_or, take, drop, None, Some, refl, sym, ◌∙◌, ap, append_assoc}
use Rattle.std.specs.List.{AllByRecursion}
use Rattle.std.specs.Int.{to_be_bytes, from_be_bytes, w16, w32, w64}
use Rattle.std.proofs.lemmas.Nat.{from_be_bytes-to_be_bytes_2, from_be_bytes-to_be_bytes_4, from_be_bytes-to_be_bytes_8}
use Rattle.std.proofs.lemmas.List.{take_at, drop_at}
use Rattle.fsl_record.specs.declared.Record.{Record}
use Rattle.fsl_record.specs.declared.Record.TheVariants as record_of
use Rattle.fsl_record.specs.Records.{record_bytes, records_bytes, IsFit}
use Rattle.fsl_record.proofs.ReadAgain.{Piece, piece, pair, again}

-- two lists and what stands behind them are the same
pub record SamePiece {X : Type 0} (a b : X) (r s : List ℕ) : Type 0 where
  pub piece : a ≡ b
  pub rest : r ≡ s

pub append_same : (a b r s : List ℕ) → length a ≡ length b → a ++ r ≡ b ++ s → SamePiece a b r s
append_same a b r s size same = record {
  piece = sym (take_at a r (length a) refl) ∙ ap (λ (l : List ℕ). take (length a) l) same ∙ take_at b s (length a) (sym size);
  rest = sym (drop_at a r (length a) refl) ∙ ap (λ (l : List ℕ). drop (length a) l) same ∙ drop_at b s (length a) (sym size);
}

pub length_same : (m n : ℕ) → m < 2 ^ 64 → n < 2 ^ 64 → to_be_bytes w64 m ≡ to_be_bytes w64 n → m ≡ n
length_same m n m_fits n_fits same = sym (from_be_bytes-to_be_bytes_8 m m_fits) ∙ ap (λ (l : List ℕ). from_be_bytes w64 l) same ∙ from_be_bytes-to_be_bytes_8 n n_fits

pub count_same : (m n : ℕ) → m < 2 ^ 16 → n < 2 ^ 16 → to_be_bytes w16 m ≡ to_be_bytes w16 n → m ≡ n
count_same m n m_fits n_fits same = sym (from_be_bytes-to_be_bytes_2 m m_fits) ∙ ap (λ (l : List ℕ). from_be_bytes w16 l) same ∙ from_be_bytes-to_be_bytes_2 n n_fits

pub login_length_same : (m n : ℕ) → m < 2 ^ 32 → n < 2 ^ 32 → to_be_bytes w32 m ≡ to_be_bytes w32 n → m ≡ n
login_length_same m n m_fits n_fits same = sym (from_be_bytes-to_be_bytes_4 m m_fits) ∙ ap (λ (l : List ℕ). from_be_bytes w32 l) same ∙ from_be_bytes-to_be_bytes_4 n n_fits

pub first_same : (a b : ℕ) (r s : List ℕ) → a ∷ r ≡ b ∷ s → a ≡ b
first_same a b r s same = ap (λ (l : List ℕ). get_or l 0 0) same

pub rest_same : (a b : ℕ) (r s : List ℕ) → a ∷ r ≡ b ∷ s → r ≡ s
rest_same a b r s same = ap (λ (l : List ℕ). drop 1 l) same

-- four lists, one after another
pub record SamePieces (a b c d e f : List ℕ) (r s : List ℕ) : Type 0 where
  pub first : a ≡ b
  pub second : c ≡ d
  pub rest : e ++ r ≡ f ++ s

pub pieces_same : (a b c d e f r s : List ℕ) → length a ≡ length b → length c ≡ length d → (((a ++ c) ++ e) ++ r) ≡ (((b ++ d) ++ f) ++ s) → SamePieces a b c d e f r s
pieces_same a b c d e f r s ab cd same =
    let all : a ++ (c ++ (e ++ r)) ≡ b ++ (d ++ (f ++ s)) =
    sym (append_assoc a c (e ++ r)) ∙ sym (append_assoc (a ++ c) e r) ∙ same ∙ append_assoc (b ++ d) f s ∙ append_assoc b d (f ++ s) in
    let one = append_same a b (c ++ (e ++ r)) (d ++ (f ++ s)) ab all in
    let two = append_same c d (e ++ r) (f ++ s) cd one.rest in
    record { first = one.piece; second = two.piece; rest = two.rest }

-- a record is known by its bytes, whatever stands behind it
pub record_same : (a b : Record) (r s : List ℕ) → IsFit a → IsFit b → record_bytes a ++ r ≡ record_bytes b ++ s → SamePiece a b r s
record_same a b r s fit also same =
    let both : pair a r ≡ pair b s = sym (again a r fit) ∙ ap piece same ∙ again b s also in
    record { piece = ap (λ (p : Piece). p.0) both; rest = ap (λ (p : Piece). p.1) both }

-- ---- lists of records

-- a record has bytes
pub record_some : (r : Record) (rest : List ℕ) → record_bytes r ++ rest ≢ []
record_some (record_of.Config c) rest none = absurd cc
record_some (record_of.Blob p n None b) rest none = absurd cc
record_some (record_of.Blob p n (Some r) b) rest none = absurd cc
record_some (record_of.Publish n) rest none = absurd cc
record_some (record_of.Shun n) rest none = absurd cc
record_some (record_of.Unshun n) rest none = absurd cc

-- Behind fit records in front of the bytes of fit records the rest of these stands.
pub record RecordsLeft (front all : List Record) (rest : List ℕ) : Type 0 where
  pub more : List Record
  pub whole : all ≡ front ++ more
  pub bytes : rest ≡ records_bytes more
  pub fit : AllByRecursion IsFit more

pub records_left : (front all : List Record) (rest : List ℕ) → AllByRecursion IsFit front → AllByRecursion IsFit all → records_bytes front ++ rest ≡ records_bytes all → RecordsLeft front all rest
records_left [] all rest front_fit all_fit same = record { more = all; whole = refl; bytes = same; fit = all_fit }
records_left (a ∷ front) [] rest front_fit all_fit same = absurd (record_some a (records_bytes front ++ rest) (sym (append_assoc (record_bytes a) (records_bytes front) rest) ∙ same))
records_left (a ∷ front) (b ∷ all) rest front_fit all_fit same =
    let here = record_same a b (records_bytes front ++ rest) (records_bytes all) front_fit.0 all_fit.0 (sym (append_assoc (record_bytes a) (records_bytes front) rest) ∙ same) in
    let left = records_left front all rest front_fit.1 all_fit.1 here.rest in
    record { more = left.more; whole = (λ i. sym here.piece i ∷ left.whole i); bytes = left.bytes; fit = left.fit }

-- Fit records with the same bytes are the same.
pub records_same : (a b : List Record) → AllByRecursion IsFit a → AllByRecursion IsFit b → records_bytes a ≡ records_bytes b → a ≡ b
records_same [] [] a_fit b_fit same = refl
records_same [] (y ∷ b) a_fit b_fit same = absurd (record_some y (records_bytes b) (sym same))
records_same (x ∷ a) [] a_fit b_fit same = absurd (record_some x (records_bytes a) same)
records_same (x ∷ a) (y ∷ b) a_fit b_fit same =
    let here = record_same x y (records_bytes a) (records_bytes b) a_fit.0 b_fit.0 same in
    let more = records_same a b a_fit.1 b_fit.1 here.rest in
    (λ i. here.piece i ∷ more i)
